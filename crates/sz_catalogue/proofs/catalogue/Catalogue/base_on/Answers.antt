-- A name has no more versions than arrays are held, so the number fits.
use Rattle.std.proofs.Common.{◌≡◌, ℕ, ◌+◌, List, length, slice_set, get_or, ap, ap₂, sym, ◌∙◌, arith}
use Rattle.std.specs.Arc.{arc_value}
use Rattle.sz_spec.specs.Values.{Grid}
use Rattle.sz_catalogue.specs.Holdings.{Base, Version, Holdings, things_named}
use Rattle.sz_catalogue.specs.Refreshes.{base_at, base_on, no_base}
use Rattle.sz_catalogue.proofs.Names.{length-things_named}
use Rattle.sz_catalogue.proofs.Refreshed.{base-there, any-default}
use Rattle.sz_catalogue.proofs.catalogue.Catalogue.base_on.Goals as goal

pub overflow_cast-version : goal.overflow_cast-version
overflow_cast-version c =
    omega (
      arith,
      c.next_version-version.ensures,
      length-things_named c.as_str-2.result.now c.self.inside.arrays,
      c.self.invariant.limits.few_arrays,
    )

pub returns : goal.returns
returns c =
    λ v same.
    let i = c.args.input in
    let old : c.index-as_slice-input.result ≡ base_at v i =
    c.index-as_slice-input.is
    ∙ any-default c.as_slice.result.now i c.index-as_slice-input.result no_base (rw c.as_slice.ensures c.requires.input)
    ∙ ap (λ (bs : List Base). get_or bs i no_base) (c.as_slice.ensures ∙ sym same) ∙ base-there v i in
    let name : c.in_ok-name.name ≡ (base_at v i).name =
    c.in_ok-name.ensures ∙ c.as_str.ensures ∙ ap (λ (b : Base). b.name) (c.old.view_is ∙ old) in
    let version : c.next_version-version.result ≡ length (things_named (base_at v i).name c.args.self.now.arrays) + 1 =
    c.next_version-version.ensures
    ∙ ap₂ (λ (q : List ℕ) (h : Holdings). length (things_named q h.arrays) + 1) (c.as_str-2.ensures ∙ name)
    c.self.view_is in
    let put : List ℕ → ℕ → Grid → List Base = λ q k g.
    slice_set c.args.base.now i (record { name = q; version = k; array = g }) in
    c.set.ensures
    ∙ ap (λ (bs : List Base). slice_set bs i (record {
      name = c.in_ok-name.name;
      version = c.next_version-version.result;
      array = arc_value c.in_ok-array.array;
    })) c.in_ok-all.ensures
    ∙ ap (λ (q : List ℕ). put q c.next_version-version.result (arc_value c.in_ok-array.array)) name
    ∙ ap₂ (put (base_at v i).name) version c.in_ok-array.ensures
