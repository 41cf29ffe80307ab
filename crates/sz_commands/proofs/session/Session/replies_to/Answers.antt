-- One reply more: the ask at the place is used up, and all others are as they were.
use Rattle.std.proofs.Common.{◌≡◌, ◌+◌, ◌<◌, List, ◌++◌, ◌∷◌, [], map, take, length, refl, sym, ap, ap₂, ◌∙◌}
use Rattle.std.proofs.Common.{arith, subst}
use Rattle.std.proofs.lemmas.List.{map-append}
use Rattle.std.proofs.lemmas.List.Sums.{sum_by_push}
use Rattle.std.proofs.lemmas.Slice.Zip.{AllZip-long}
use Rattle.sz_catalogue.specs.Responses.{Response}
use Rattle.sz_catalogue.specs.declared.reply.Reply.{Reply}
use Rattle.sz_catalogue.specs.Seen.{response_of}
use Rattle.sz_commands.specs.Commands.{traced_for, most_for}
use Rattle.sz_commands.specs.Asks.{IsEnded, ask_reply, traced_for_asks, most_for_asks}
use Rattle.sz_commands.specs.declared.asking.AskLine.{AskLine}
use Rattle.sz_commands.specs.declared.asking.Asked.{Asked}
use Rattle.sz_versions.proofs.Keeping.{one-taken}
use Rattle.sz_commands.proofs.Asks.{zip-at, zip-set}
use Rattle.sz_commands.proofs.session.Session.replies_to.Goals.{After-index-lines-place}
use Rattle.sz_commands.proofs.session.Session.replies_to.Goals as goal

-- there is a line at the place, and with it one more is replied to
inside : (c : After-index-lines-place) → c.loop-place.place < length c.args.lines.now
inside c = omega (arith, c.loop-place-test.true, c.loop-place.invariant.end)

taken : (c : After-index-lines-place) → take (c.loop-place.place + 1) c.args.lines.now
    ≡ take c.loop-place.place c.args.lines.now ++ c.index-lines-place.result ∷ []
taken c =
    one-taken c.args.lines.now c.loop-place.place c.index-lines-place.result (inside c) c.index-lines-place.is

pub index_mut-requires : goal.index_mut-requires
index_mut-requires c =
    omega (
      arith,
      c.loop-place-test.true,
      c.loop-place.invariant.end,
      AllZip-long (IsEnded c.args.self.now) c.args.lines.now c.loop-place.all.items c.loop-place.invariant.ended,
      c.loop-place.all.ok.0,
    )

pub reply_to-requires-clause-ended : goal.reply_to-requires-clause-ended
reply_to-requires-clause-ended c =
    zip-at (IsEnded c.args.self.now) c.args.lines.now c.loop-place.all.items c.loop-place.place
    c.index-lines-place.result c.index_mut.result.now c.loop-place.invariant.ended
    (inside (goal.at.reply_to-requires-clause-ended c).After-index-lines-place) c.index-lines-place.is
    c.index_mut.ensures.value

pub loop-place-preserved : goal.loop-place-preserved
loop-place-preserved c =
    let held = c.args.self.now in
    let before = take c.loop-place.place c.args.lines.now in
    let l = c.index-lines-place.result in
    let more = taken (goal.at.loop-place-preserved c).After-index-lines-place in
    let any : (x : AskLine) → IsEnded held x c.reply_to.new.one =
    λ x. subst (λ (a : Asked). IsEnded held x a) (sym c.reply_to.ensures.used) tt in
    let least = ap (traced_for_asks held) more
    ∙ sum_by_push (λ (x : AskLine). traced_for held x.ask) before l in
    let most = ap (most_for_asks held) more ∙ sum_by_push (λ (x : AskLine). most_for held x.ask) before l in
    record {
      end = refl;
      ended =
          zip-set (IsEnded held) c.args.lines.now c.loop-place.all.items c.loop-place.place c.reply_to.new.one
          c.loop-place.invariant.ended any;
      replies = ap (λ (rs : List Reply). map response_of rs) c.in_ok-push.ensures.items
          ∙ map-append response_of c.loop-place.replies.items (c.in_ok-reply_to.field-0 ∷ [])
          ∙ ap₂ (λ (xs : List Response) (x : Response). xs ++ x ∷ []) c.loop-place.invariant.replies
          c.in_ok-reply_to.ensures.reply
          ∙ sym (ap (map (ask_reply held)) more ∙ map-append (ask_reply held) before (l ∷ []));
      least = omega (arith, least, c.loop-place.invariant.least, c.in_ok-reply_to.ensures.least);
      most = omega (arith, most, c.loop-place.invariant.most, c.in_ok-reply_to.ensures.most);
      room = omega (arith, c.loop-place.invariant.room, c.reply_to.ensures.few);
    }
