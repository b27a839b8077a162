-- What the records of a batch put at the egress is what the batch then has.
use Rattle.std.proofs.Common.{◌≡◌, ℕ, List, [], ◌∷◌, ◌++◌, refl, sym, ap, ◌∙◌}
use Rattle.std.specs.List.{AllZip}
use Rattle.pcap_io.specs.declared.forms.Form.{Form}
use Rattle.pcap_io.specs.declared.frames.Captured.{Captured}
use Rattle.pcap_io.specs.Egress.{packet_left, packets_left}
use Rattle.record_text.specs.declared.records.End.{End}
use Rattle.record_text.specs.declared.records.End.TheVariants.{Egress, Bypass, Drop}
use Rattle.record_text.specs.declared.records.Record.{Record}
use Rattle.service_functions.specs.declared.functions.Function.{Function}
use Rattle.sfc_config.specs.Parts.{Parts}
use Rattle.sfc_routes.specs.declared.route_changes.RouteChange.{RouteChange}
use Rattle.forwarder.specs.Walks.{functions_of}
use Rattle.worker_run.specs.Batches.{Carried, frame_left, frames_in, records_in}
use Rattle.worker_run.specs.Outputs.{left_at, left_by, packet_out, packets_out}
use Rattle.worker_run.specs.Records.{SingleRecord}
use Rattle.worker_run.specs.Runners.{Carries}

-- a record by its parts, and its end by cases
at_end : (functions : List Function) (form : Form) (frame : Captured) (r : Record) (end : End)
    → packet_left form frame (left_at functions frame (record r { end = end })) ≡ packet_out form (record { frame = frame_left functions frame (record r { end = end }); outcome = record r { end = end } })
at_end functions form frame r Egress = refl
at_end functions form frame r Bypass = refl
at_end functions form frame r (Drop why) = refl

out_at : (functions : List Function) (form : Form) (frame : Captured) (d : Carried) → d.frame ≡ frame_left functions frame d.outcome → packet_left form frame (left_at functions frame d.outcome) ≡ packet_out form d
out_at functions form frame d left =
    at_end functions form frame d.outcome d.outcome.end ∙ ap (λ (f : Captured). packet_out form (record { frame = f; outcome = d.outcome })) (sym left)

pub outs : (setup : Parts) (R : Carried → Carried → Type 0) → ((c d : Carried) → R c d → d.frame ≡ frame_left (functions_of setup.instances) c.frame d.outcome) → (form : Form) (old new : List Carried) → AllZip R old new
    → packets_left form (frames_in old) (left_by (functions_of setup.instances) (frames_in old) (records_in new)) ≡ packets_out form new
outs setup R left form [] [] all = refl
outs setup R left form [] (d ∷ ds) all = absurd all
outs setup R left form (c ∷ cs) [] all = absurd all
outs setup R left form (c ∷ cs) (d ∷ ds) all =
    ap (λ (l : List ℕ). l ++ packets_left form (frames_in cs) (left_by (functions_of setup.instances) (frames_in cs) (records_in ds))) (out_at (functions_of setup.instances) form c.frame d (left c d all.0))
    ∙ ap (λ (l : List ℕ). packet_out form d ++ l) (outs setup R left form cs ds all.1)

pub singles : (setup : Parts) (changes : List RouteChange) (old new : List Carried) → AllZip (λ c d. Carries setup changes c d) old new → AllZip (λ f r. SingleRecord setup changes f r) (frames_in old) (records_in new)
singles setup changes [] [] all = tt
singles setup changes [] (d ∷ ds) all = absurd all
singles setup changes (c ∷ cs) [] all = absurd all
singles setup changes (c ∷ cs) (d ∷ ds) all = (all.0.single, singles setup changes cs ds all.1)
