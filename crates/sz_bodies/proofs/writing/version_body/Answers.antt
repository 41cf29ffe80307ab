-- What stands before the nodes is put part by part, and the nodes stand behind it.
use Rattle.std.proofs.Common.{◌≡◌, ◌<◌, ℕ, List, ◌++◌, length, map, sym, ap, subst, ◌∙◌, option_map, Option, unwrap_or}
use Rattle.std.specs.Arc.{arc_value}
use Rattle.std.proofs.lemmas.List.{length-map}
use Rattle.sz_cells.specs.SetBytes.{four_bytes}
use Rattle.sz_spec.specs.declared.modes.Strategy.{Strategy}
use Rattle.sz_region.specs.Counted.{counted}
use Rattle.sz_catalogue.specs.Holdings.{Base, Version, no_version}
use Rattle.sz_catalogue.specs.Rules.{version_of}
use Rattle.sz_bodies.specs.Bodies.{VersionBody, name_bytes, base_bytes, IsShort, IsBodyOf}
use Rattle.sz_bodies.specs.Fitting.{sites_of, FitNodes, Fit, lineages, parts_of, named_base, body_of}
use Rattle.sz_bodies.proofs.NodesPut.{fit-length, four-parts, body-whole}
use Rattle.sz_bodies.proofs.writing.version_body.Goals as goal

pub returns : goal.returns
returns c =
    let n = c.args.version in
    let stores = c.args.stores.now in
    let kept = lineages stores in
    let inside = c.held.inside in
    let h : Version = c.in-Some.held.now in
    let held : version_of c.args.catalogue.now n ≡ h =
    ap (λ (o : Option Version). unwrap_or o no_version) (sym c.in-Some.ensures) in
    let base = c.as_slice.ensures in
    let lists = c.as_slice-2.ensures in
    let own : h.lists ≡ c.as_slice-2.result.now = sym (lists ∙ ap (λ (v : Version). v.lists) c.held.view_is) in
    let fit : FitNodes (sites_of h) h.lists kept = subst (λ (v : Version). Fit v kept) held c.requires.fit in
    let fits = subst (λ ls. FitNodes (sites_of h) ls kept) own fit in
    let count : length (parts_of c.as_slice-2.result.now kept) ≡ length stores =
    (fit-length (sites_of h) c.as_slice-2.result.now kept fits).2
    ∙ length-map stores (option_map (λ a. arc_value a)) in
    let b : VersionBody = record {
      number = n;
      flow_name = inside.flow_name;
      base = map named_base c.as_slice.result.now;
      nodes = parts_of c.as_slice-2.result.now kept;
    } in
    let head = four-parts (four_bytes n) (name_bytes inside.flow_name) (counted base_bytes b.base)
    (four_bytes (length b.nodes)) c.put_number.new.to.items c.put_name.new.to.items c.put_bases.new.to.items
    c.put_count.new.to.items
    (c.in_ok-put_number.ensures ∙ ap (λ (xs : List ℕ). xs ++ four_bytes n) c.new-body.ensures.items)
    c.in_ok-put_name.ensures.bytes c.in_ok-put_bases.ensures.bytes
    (c.in_ok-put_count.ensures.bytes
    ∙ ap (λ (k : ℕ). c.put_bases.new.to.items ++ four_bytes k) (sym count)) in
    let front = c.in_ok-put_nodes.ensures.front in
    let few : length b.nodes < 4294967296 =
    subst (λ (k : ℕ). k < 4294967296) (sym count) c.in_ok-put_count.ensures.few in
    let short : IsShort b = record {
      number = c.ranges.version.fits;
      flow_name = c.in_ok-put_name.ensures.short;
      few_bases =
          subst (λ (k : ℕ). k < 4294967296) (sym (length-map c.as_slice.result.now named_base))
          c.in_ok-put_bases.ensures.few;
      bases = c.in_ok-put_bases.ensures.short;
      few_nodes = few;
      lists = c.in_ok-put_nodes.ensures.short;
    } in
    let whole = body-whole c.args.format
    (sites_of h) b c.put_count.new.to.items front.0 c.put_nodes.new.to.items short head front.1
    (c.in_ok-put_nodes.ensures.nodes (sites_of h) fits) in
    let said : b ≡ body_of n h kept =
    ap (λ (xs : List Base). record b { base = map named_base xs }) base
    ∙ ap (λ (ls : List (List Strategy)). record b { base = map named_base inside.base; nodes = parts_of ls kept }) lists
    ∙ ap (λ (v : Version). body_of n v kept) c.held.view_is in
    subst (λ (v : Version). IsBodyOf c.args.format (sites_of v) (body_of n v kept) c.put_nodes.new.to.items) (sym held)
    (subst (λ (x : VersionBody). IsBodyOf c.args.format (sites_of h) x c.put_nodes.new.to.items) said whole)
