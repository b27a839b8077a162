-- What is shown last shows all that was taken.
use Rattle.std.proofs.Common.{◌≡◌, ◌++◌, ℕ, length, sym, ap, ◌∙◌, subst}
use Rattle.bgp_messages.specs.Refusals.{Held}
use Rattle.sfc_texts.specs.declared.stream_texts.Stage.{Stage}
use Rattle.sfc_texts.specs.BgpText.{rest_line, ShowsBgp}
use Rattle.sfc_texts.specs.Showings.{AwaitsAt}
use Rattle.sfc_texts.proofs.TextLemmas.{on_ok_so}
use Rattle.sfc_texts.proofs.ShowingLemmas.{ended_held, ended_over}
use Rattle.sfc_texts.proofs.stream_texts.StreamLines.show_rest.Goals as goal

pub returns-in-Open : goal.returns-in-Open
returns-in-Open c = λ taken front stands.
    let stage = sym (ap (λ s. s.stage) c.self.view_is) ∙ c.in-Open.is in
    let held : Held c.args.self.now.rest = subst (λ (s : Stage). AwaitsAt s c.args.self.now.rest) stage c.requires in
    let same : length c.rest.result.now ≡ length c.args.self.now.rest = ap length (c.rest.ensures ∙ ap (λ s. s.rest) c.self.view_is) in
    on_ok_so (c.print_rest.new.out ≡ c.args.out.now ++ rest_line (length c.rest.result.now)) (ShowsBgp taken (front ++ c.print_rest.new.out)) c.print_rest.result
    (λ printed. ended_held c.args.self.now taken front c.args.out.now c.print_rest.new.out stage held (printed ∙ ap (λ (n : ℕ). c.args.out.now ++ rest_line n) same) stands)
    c.print_rest.ensures

pub returns-in-Over : goal.returns-in-Over
returns-in-Over c = λ taken front stands. ended_over c.args.self.now taken (front ++ c.args.out.now) (sym (ap (λ s. s.stage) c.self.view_is) ∙ c.in-Over.is) stands
