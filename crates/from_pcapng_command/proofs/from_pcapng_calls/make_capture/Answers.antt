-- The conversion ended well and the counts were written, or it did not.
use Rattle.std.proofs.Common.{◌≡◌, ℕ, Option, refl, sym, ◌∙◌, subst}
use Rattle.sfc_desk.specs.declared.ports.Port.TheVariants.{Source, Made}
use Rattle.commands.specs.declared.statuses.Status.TheVariants as status
use Rattle.frame_streams.specs.Turning.{Converts}
use Rattle.from_pcapng_command.specs.FromPcapngCommand.{FromWrites}
use Rattle.from_pcapng_command.proofs.RunLemmas.{ends_says, stops_says}
use Rattle.from_pcapng_command.proofs.from_pcapng_calls.make_capture.Goals as goal

pub returns-in-Ok : goal.returns-in-Ok
returns-in-Ok g c =
    let then = g.D.Desk.at c.args.desk.now in
    let mid = g.D.Desk.at c.convert.new.desk in
    let now = g.D.Desk.at c.report_counts.new.desk in
    ends_says c.args.interface g.D.Desk.tells (g.D.Desk.held c.convert.new.desk) (g.D.Desk.held c.report_counts.new.desk) then mid now c.convert.new.converter c.report_counts.result
    (c.in-Ok.ensures.said ∙ c.new-maker.ensures.asked)
    (subst (λ (i : Option ℕ). Converts (FromWrites i) Source Made g.D.Desk.tells then mid status.Ok) c.new-maker.ensures.asked c.in-Ok.ensures.converts)
    (λ told. c.in-Ok.ensures.turned told refl) (c.in-Ok.ensures.at_rest refl) c.report_counts.ensures.reports c.report_counts.ensures.moves

pub returns : goal.returns
returns g c =
    let then = g.D.Desk.at c.args.desk.now in
    let now = g.D.Desk.at c.convert.new.desk in
    stops_says c.args.interface g.D.Desk.tells then now c.convert.result c.in_default.not-Ok
    (subst (λ (i : Option ℕ). Converts (FromWrites i) Source Made g.D.Desk.tells then now c.convert.result) c.new-maker.ensures.asked c.convert.ensures.converts)
