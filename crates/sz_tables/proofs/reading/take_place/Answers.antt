-- A name is a number of the places, at a set of the array; the listed sets are as many, and of the same arrays.
use Rattle.std.proofs.Common.{ℕ, Some, ap, sym, ◌∙◌, arith}
use Rattle.std.proofs.lemmas.Option.{slice_get-get_or}
use Rattle.sz_region.proofs.Names.{no-name-short, no-name-past, no-name-other}
use Rattle.sz_region.proofs.Numbering.{zip-length}
use Rattle.sz_tables.specs.Placing.{IsOfArray, place_for}
use Rattle.sz_tables.specs.declared.reading.Place.{Place}
use Rattle.sz_tables.proofs.Placing.{zip-at}
use Rattle.sz_tables.proofs.reading.take_place.Goals as goal

pub returns-in_default-clause-err : goal.returns-in_default-clause-err
returns-in_default-clause-err c listed same =
    no-name-short listed c.args.array c.args.bytes.now c.args.at c.in_default.ensures.none

pub returns-in_default-get-clause-err : goal.returns-in_default-get-clause-err
returns-in_default-get-clause-err c listed same =
    let long = zip-length IsOfArray c.args.places.now listed same in
    no-name-past listed c.args.array c.in-Some.name c.args.bytes.now c.args.at c.in-Some.ensures.some
    (omega arith) (omega (arith, long, c.requires)) (omega (arith, long, c.in_default-get.ensures.lookup.3))

pub returns-then-place-array-clause-err : goal.returns-then-place-array-clause-err
returns-then-place-array-clause-err c listed same =
    let places = c.args.places.now in
    let place = c.in-Some-get.place.now in
    let lookup = c.in-Some-get.ensures.lookup in
    let long = zip-length IsOfArray places listed same in
    let here = slice_get-get_or places c.in-Some.name place lookup.3.0
    ∙ ap (λ (p : Place). Some p) (sym lookup.1) in
    let one = zip-at IsOfArray places listed c.in-Some.name place same here in
    no-name-other listed c.args.array c.in-Some.name one.0 c.args.bytes.now c.args.at c.in-Some.ensures.some
    (omega arith) (omega (arith, long, c.requires)) one.1 (λ is. c.if-place-array.true (one.2 ∙ is))

pub returns-clause-ok : goal.returns-clause-ok
returns-clause-ok c =
    let places = c.args.places.now in
    let place = c.in-Some-get.place.now in
    let lookup = c.in-Some-get.ensures.lookup in (
      c.in-Some.name,
      slice_get-get_or places c.in-Some.name place lookup.3.0
          ∙ ap (λ (p : Place). Some p) (sym lookup.1)
          ∙ ap (λ (a : ℕ). Some (place_for a place.number)) c.if-place-array.false,
      c.in-Some.ensures.some,
    )
