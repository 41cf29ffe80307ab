-- The calls add the session's lines in their order. Each line that draws begins at the number that
-- the draws before it left, which is told by how many they were.
use Rattle.std.proofs.Common.{◌≡◌, ◌+◌, ◌*◌, [], ◌∷◌, ◌++◌, codes, refl, ap, ◌∙◌, arith}
use Rattle.sz_gen.specs.Draws.{number_after}
use Rattle.sz_gen.specs.Session.{array_line, flow_line, strategy_lines, start_line, await_line, triples, load_text}
use Rattle.sz_gen.proofs.DrawSteps.{number_after-twice}
use Rattle.sz_gen.proofs.LineSteps.{text_of_lines-push, text_of_lines-join}
use Rattle.sz_gen.proofs.load.session_text.Goals as goal

pub returns : goal.returns
unfolding load_text
returns c =
    let seed = c.args.seed in
    let side = c.args.side in
    let cells = side * side in
    let image = array_line (codes "img") seed side side 1000 in
    let table = array_line (codes "tab") (number_after seed cells) 1 16 100 in
    let arrays = image ∷ table ∷ [] in
    let opened = (arrays ++ flow_line ∷ []) ++ strategy_lines in
    let asked = (opened ++ start_line ∷ []) ++ triples 1 side (number_after seed (cells + 16)) in
    let at_start = c.new-draft.ensures.number in
    let after_image = c.in_ok-push_array.ensures.number ∙ ap (λ n. number_after n cells) at_start in
    let after_table = c.in_ok-push_array-2.ensures.number ∙ ap (λ n. number_after n 16) after_image
    ∙ number_after-twice seed cells 16 in
    let at_asks = c.push_start.ensures.number ∙ c.push_strategies.ensures.number
    ∙ c.push_flow.ensures.number ∙ after_table in
    let six_more : (cells + 16) + 6 ≡ cells + 22 = omega arith in
    let after_asks = c.in_ok-push_triples.ensures.number ∙ ap (λ n. number_after n 6) at_asks
    ∙ number_after-twice seed (cells + 16) 6 ∙ ap (number_after seed) six_more in
    let at_last = c.push_await.ensures.number ∙ after_asks in
    let one = text_of_lines-push [] [] image c.new-draft.ensures.text c.in_ok-push_array.ensures.text
    (ap (λ n. array_line (codes "img") n side side 1000) at_start) in
    let two = text_of_lines-push [] (image ∷ []) table one c.in_ok-push_array-2.ensures.text
    (ap (λ n. array_line (codes "tab") n 1 16 100) after_image) in
    let three = text_of_lines-push [] arrays flow_line two c.in_ok-push_flow.ensures.text refl in
    let four = text_of_lines-join [] (arrays ++ flow_line ∷ []) strategy_lines three
    c.in_ok-push_strategies.ensures.text refl in
    let five = text_of_lines-push [] opened start_line four c.in_ok-push_start.ensures.text refl in
    let six = text_of_lines-join [] (opened ++ start_line ∷ []) (triples 1 side (number_after seed (cells + 16))) five
    c.in_ok-push_triples.ensures.text (ap (triples 1 side) at_asks) in
    let seven = text_of_lines-push [] asked await_line six c.in_ok-push_await.ensures.text refl in
    text_of_lines-join [] (asked ++ await_line ∷ []) (triples 10 side (number_after seed (cells + 22))) seven
    c.in_ok-push_triples-2.ensures.text (ap (triples 10 side) at_last)
