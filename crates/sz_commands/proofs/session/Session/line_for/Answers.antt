-- The version is held and has the input, whose base array has a name.
use Rattle.std.proofs.Common.{◌≡◌, ℕ, List, false, true, ap, ◌∙◌, subst}
use Rattle.std.specs.Prelude.{Ok, IfOk}
use Rattle.sz_script.specs.Names.{is_name}
use Rattle.sz_script.specs.Reading.{reading}
use Rattle.sz_writing.specs.Orders.{array_order}
use Rattle.sz_catalogue.specs.Holdings.{Base, Version}
use Rattle.sz_catalogue.specs.Rules.{version_of, has_no_version}
use Rattle.sz_catalogue.specs.Refreshes.{has_input, base_at}
use Rattle.sz_catalogue.proofs.Refreshed.{input-named}
use Rattle.sz_versions.proofs.Keeps.{version-found, some-same}
use Rattle.sz_versions.proofs.Refreshes.{base-found}
use Rattle.sz_commands.specs.States.{SessionState}
use Rattle.sz_commands.proofs.session.Session.line_for.Goals.{After-as_str}
use Rattle.sz_commands.proofs.session.Session.line_for.Goals as goal

-- the name is that of the input's base array
record IsNamed (c : After-as_str) : Type 0 where
  pub there : has_no_version c.self.inside.catalogue c.args.version ≡ false
  pub input : has_input (version_of c.self.inside.catalogue c.args.version) c.args.input ≡ true
  pub name : c.as_str.result.now ≡ (base_at (version_of c.self.inside.catalogue c.args.version) c.args.input).name

is-named : (c : After-as_str) → IsNamed c
is-named c =
    let cat = c.self.inside.catalogue in
    let n = c.args.version in
    let i = c.args.input in
    let v = version_of cat n in
    let there = ap (λ (s : SessionState). has_no_version s.held n) c.self.view_is ∙ c.requires.there in
    let input = ap (λ (s : SessionState). has_input (version_of s.held n) i) c.self.view_is ∙ c.requires.input in
    let is_v : c.in-Some.held.now ≡ v =
    some-same c.in-Some.held.now v ((rw c.in-Some.is at c.version.ensures) ∙ version-found cat n there) in
    let base = c.as_slice-base.ensures ∙ ap (λ (w : Version). w.base) (c.held.view_is ∙ is_v) in
    let found = base-found v i c.as_slice-base.result.now c.index-base-input.result input base c.index-base-input.is in
    record {
      there = there;
      input = input;
      name = c.as_str.ensures ∙ ap (λ (b : Base). b.name) (c.only.view_is ∙ found);
    }

pub line_of_array-requires : goal.line_of_array-requires
line_of_array-requires c =
    let is = is-named (goal.at.line_of_array-requires c).After-as_str in
    ap is_name is.name
    ∙ input-named c.self.inside.catalogue c.args.version c.args.input c.is_in_order.ensures is.there is.input

pub returns : goal.returns
returns c =
    let N : List ℕ → Type 0 = λ q. IfOk c.line_of_array.result
    (λ line. reading line.items ≡ Ok (array_order q c.args.array.now)) in
    subst N ((is-named (goal.at.returns c).After-as_str).name
    ∙ ap (λ (s : SessionState). (base_at (version_of s.held c.args.version) c.args.input).name) c.self.view_is)
    c.line_of_array.ensures
