-- The texts of a run, and those of what more is said.
use Rattle.std.proofs.Common.{append-nil, ◌≡◌, ℕ, ◌+◌, List, [], ◌∷◌, ◌++◌, append_assoc, length, Option, None, Some, refl, sym, ap, ◌∙◌, arith}
use Rattle.pcap_io.specs.declared.forms.Form.{Form}
use Rattle.pcap_io.specs.declared.frames.Captured.{Captured}
use Rattle.pcap_io.specs.Egress.{packet_left, packets_left}
use Rattle.pcap_io.specs.Heads.{file_head}
use Rattle.control_files.specs.declared.segments.Segment.{Segment}
use Rattle.record_text.specs.declared.records.Record.{Record}
use Rattle.record_text.specs.Lines.{ended_line}
use Rattle.service_functions.specs.declared.functions.Function.{Function}
use Rattle.session_machine.specs.Groups.{Entry}
use Rattle.sfc_config.specs.Parts.{Parts}
use Rattle.sfc_routes.specs.Entries.{Entries}
use Rattle.forwarder.specs.Walks.{functions_of}
use Rattle.worker_run.specs.Batches.{Carried, frames_in, records_in}
use Rattle.worker_run.specs.Outputs.{EgressOf, LinesOf, RepliesOf, egress_packets, left_at, left_by, lines_from, packets_out}
use Rattle.file_runs.specs.RunPuts.{batch_texts, packets_in, texts_behind, texts_of, head_in, nothing_more, only_head}

packets_more : (functions : List Function) (form : Form) (xs ys : List Captured) (rs qs : List Record) → length rs ≡ length xs
    → packets_left form (xs ++ ys) (left_by functions (xs ++ ys) (rs ++ qs)) ≡ packets_left form xs (left_by functions xs rs) ++ packets_left form ys (left_by functions ys qs)
packets_more functions form [] ys [] qs same = refl
packets_more functions form [] ys (r ∷ rs) qs same = absurd (omega (arith, same))
packets_more functions form (x ∷ xs) ys [] qs same = absurd (omega (arith, same))
packets_more functions form (x ∷ xs) ys (r ∷ rs) qs same =
    ap (λ (l : List ℕ). packet_left form x (left_at functions x r) ++ l) (packets_more functions form xs ys rs qs (omega (arith, same)))
    ∙ sym (append_assoc (packet_left form x (left_at functions x r)) (packets_left form xs (left_by functions xs rs)) (packets_left form ys (left_by functions ys qs)))

-- the packets of more frames, where there is a form
abbrev pub packets_of : Parts → Option Form → List Captured → List Record → List ℕ
packets_of setup None frames records = []
packets_of setup (Some form) frames records = egress_packets setup form frames records

pub egress_more : (setup : Parts) (form : Option Form) (xs ys : List Captured) (rs qs : List Record) → length rs ≡ length xs
    → EgressOf setup form (xs ++ ys) (rs ++ qs) ≡ EgressOf setup form xs rs ++ packets_of setup form ys qs
egress_more setup None xs ys rs qs same = refl
egress_more setup (Some form) xs ys rs qs same =
    ap (λ (l : List ℕ). file_head form ++ l) (packets_more (functions_of setup.instances) form xs ys rs qs same)
    ∙ sym (append_assoc (file_head form) (egress_packets setup form xs rs) (egress_packets setup form ys qs))

pub lines_more : (roster : Entries) (place : ℕ) (rs qs : List Record) → lines_from roster place (rs ++ qs) ≡ lines_from roster place rs ++ lines_from roster (place + length rs) qs
lines_more roster place [] qs = ap (λ n. lines_from roster n qs) (omega arith)
lines_more roster place (r ∷ rs) qs =
    let next : place + 1 + length rs ≡ place + length (r ∷ rs) = omega arith in
    ap (λ (l : List ℕ). ended_line roster (place, r) ++ l) (lines_more roster (place + 1) rs qs)
    ∙ ap (λ n. ended_line roster (place, r) ++ (lines_from roster (place + 1) rs ++ lines_from roster n qs)) next
    ∙ sym (append_assoc (ended_line roster (place, r)) (lines_from roster (place + 1) rs) (lines_from roster (place + length (r ∷ rs)) qs))

packets_same : (setup : Parts) (form : Option Form) (old new : List Carried) → ((f : Form) → egress_packets setup f (frames_in old) (records_in new) ≡ packets_out f new) → packets_of setup form (frames_in old) (records_in new) ≡ packets_in form new
packets_same setup None old new out = refl
packets_same setup (Some form) old new out = out form

-- the texts behind a round are those before it with what the round puts
pub texts_next : (setup : Parts) (form : Option Form) (passed : List Captured) (history segments : List Segment) (log now : List Entry) (said : List Record) (old new : List Carried) (place : ℕ) (replies : List ℕ)
    → length said ≡ length passed → place ≡ length passed → ((f : Form) → egress_packets setup f (frames_in old) (records_in new) ≡ packets_out f new)
    → RepliesOf (history ++ segments) (log ++ now) ≡ RepliesOf history log ++ replies
    → texts_behind (texts_of setup form passed history log said) (batch_texts form setup.roster place new replies) ≡ texts_of setup form (passed ++ frames_in old) (history ++ segments) (log ++ now) (said ++ records_in new)
texts_next setup form passed history segments log now said old new place replies same at out answered =
    let egress : EgressOf setup form passed said ++ packets_in form new ≡ EgressOf setup form (passed ++ frames_in old) (said ++ records_in new) =
    ap (λ (l : List ℕ). EgressOf setup form passed said ++ l) (sym (packets_same setup form old new out)) ∙ sym (egress_more setup form passed (frames_in old) said (records_in new) same) in
    let here : place ≡ 0 + length said = omega (arith, same, at) in
    let lines : LinesOf setup said ++ lines_from setup.roster place (records_in new) ≡ LinesOf setup (said ++ records_in new) =
    ap (λ n. LinesOf setup said ++ lines_from setup.roster n (records_in new)) here ∙ sym (lines_more setup.roster 0 said (records_in new)) in
    let replied = sym answered in
    λ k. record { egress = egress k; lines = lines k; replies = replied k }

head_alone : (setup : Parts) (form : Option Form) → head_in form ≡ EgressOf setup form [] []
head_alone setup None = refl
head_alone setup (Some form) = sym (append-nil (file_head form))

pub head_texts : (setup : Parts) (form : Option Form) → texts_behind nothing_more (only_head form) ≡ texts_of setup form [] [] [] []
head_texts setup form = ap (λ (l : List ℕ). record { egress = l; lines = []; replies = [] }) (head_alone setup form)
