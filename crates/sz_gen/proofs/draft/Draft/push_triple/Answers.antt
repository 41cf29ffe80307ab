-- Three lines, each of which begins at the number that the one before left.
use Rattle.std.proofs.Common.{◌≡◌, ◌+◌, ◌/◌, [], ◌∷◌, sym, ap, ◌∙◌, append-nil, arith}
use Rattle.std.proofs.lemmas.Result.{on_ok_weaker}
use Rattle.sz_gen.specs.Draws.{number_after}
use Rattle.sz_gen.specs.Session.{ask_line, triple, way_back, way_forward, way_to_table}
use Rattle.sz_gen.proofs.DrawSteps.{number_after-twice}
use Rattle.sz_gen.proofs.LineSteps.{text_of_lines-push}
use Rattle.sz_gen.proofs.draft.Draft.push_triple.Goals as goal

pub returns-clause-number : goal.returns-clause-number
returns-clause-number c =
    let x = c.args.self.now.number in
    on_ok_weaker c.push_ask-3.result
    (λ last. last
    ∙ ap (λ n. number_after n 2)
    (c.in_ok-push_ask-2.ensures.number ∙ ap (λ n. number_after n 2) c.in_ok-push_ask.ensures.number
    ∙ number_after-twice x 2 2)
    ∙ number_after-twice x 4 2)
    c.push_ask-3.ensures.number

pub returns-clause-text : goal.returns-clause-text
unfolding triple way_back way_forward way_to_table
returns-clause-text c =
    let x = c.args.self.now.number in
    let text = c.args.self.now.text.items in
    let side = c.args.side in
    let half : c.from-half.result ≡ (side + 1) / 2 = omega arith in
    let same : c.from-side.result ≡ side = omega arith in
    let second_number = c.in_ok-push_ask.ensures.number in
    let third_number = c.in_ok-push_ask-2.ensures.number ∙ ap (λ n. number_after n 2) second_number
    ∙ number_after-twice x 2 2 in
    let first = ask_line way_back x ((side + 1) / 2) in
    let second = ask_line way_forward (number_after x 2) side in
    let third = ask_line way_to_table (number_after x 4) side in
    let one = text_of_lines-push text [] first (sym (append-nil text)) c.in_ok-push_ask.ensures.text
    (ap (λ m. ask_line way_back x m) half) in
    let two = text_of_lines-push text (first ∷ []) second one c.in_ok-push_ask-2.ensures.text
    (ap (λ n. ask_line way_forward n c.from-side.result) second_number
    ∙ ap (λ m. ask_line way_forward (number_after x 2) m) same) in
    on_ok_weaker c.push_ask-3.result
    (λ last. text_of_lines-push text (first ∷ second ∷ []) third two last
    (ap (λ n. ask_line way_to_table n c.from-side.result) third_number
    ∙ ap (λ m. ask_line way_to_table (number_after x 4) m) same))
    c.push_ask-3.ensures.text
