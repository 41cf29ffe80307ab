-- Each builder changes what a parse reads of the command by one step of the definition, and the
-- chain of `arg` calls adds the rules in their order.
use Rattle.std.proofs.Common.{ap, ap₂, codes, pos, true, ◌≡◌, ◌∙◌}
use Rattle.std.proofs.lemmas.Result.{IfOk-weaker}
use Rattle.clap.specs.Words.{rule_of, new_rule, with_rule, Rule}
use Rattle.clap.specs.declared.builder.arg.Arg.{Arg}
use Rattle.clap.specs.Simple.{app_of_fields, on_top}
use Rattle.sz_words.specs.Command.{number_option}
use Rattle.sz_words.proofs.arguments.command.Goals as goal

pub returns : goal.returns
returns c =
    let mode_is : rule_of c.required-mode.result ≡ record (new_rule (codes "MODE")) { required = true } =
    ap rule_of c.required-mode.ensures ∙ ap (λ (r : Rule). record r { required = true }) c.new.ensures.rule in
    let place_is : rule_of c.new-place.result ≡ new_rule (codes "PLACE") = c.new-place.ensures.rule in
    let workers_is : rule_of c.number_option-workers.result
    ≡ number_option (codes "workers") (pos 1) (pos 64) (codes "4") = c.number_option-workers.ensures.rule in
    let askers_is : rule_of c.number_option-askers.result
    ≡ number_option (codes "askers") (pos 1) (pos 64) (codes "1") = c.number_option-askers.ensures.rule in
    let seed_is : rule_of c.number_option-seed.result
    ≡ number_option (codes "seed") (pos 0) (pos 4294967295) (codes "1") = c.number_option-seed.ensures.rule in
    let side_is : rule_of c.number_option-side.result ≡ number_option (codes "side") (pos 1) (pos 512) (codes "64") =
    c.number_option-side.ensures.rule in
    let bare_is = ap app_of_fields c.no_binary_name.ensures
    ∙ ap (on_top (λ s. record s { no_binary_name = true })) c.new-2.ensures.app in
    let one =
    c.in_ok-arg.ensures.shape (ap (λ (a : Arg). a.global) c.required-mode.ensures ∙ c.new.ensures.optional.1)
    ∙ ap₂ with_rule bare_is mode_is in
    let two = c.in_ok-arg-2.ensures.shape c.new-place.ensures.optional.1 ∙ ap₂ with_rule one place_is in
    let three = c.in_ok-arg-3.ensures.shape c.number_option-workers.ensures.local ∙ ap₂ with_rule two workers_is in
    let four = c.in_ok-arg-4.ensures.shape c.number_option-askers.ensures.local ∙ ap₂ with_rule three askers_is in
    let five = c.in_ok-arg-5.ensures.shape c.number_option-seed.ensures.local ∙ ap₂ with_rule four seed_is in
    IfOk-weaker c.arg-6.result _ _
    (λ r h. h.shape c.number_option-side.ensures.local ∙ ap₂ with_rule five side_is) c.arg-6.ensures
