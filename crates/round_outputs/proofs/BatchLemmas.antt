-- What the frames of a batch put, one by one.
use Rattle.std.proofs.Common.{◌≡◌, ℕ, ◌+◌, ◌<◌, List, [], ◌∷◌, ◌++◌, length, take, drop, get_or, sym, ap, ◌∙◌, append_assoc, arith}
use Rattle.std.proofs.lemmas.List.{append-nil, take-append-drop, take_more, length-take-le, map-append, length-map}
use Rattle.std.proofs.lemmas.Grind.{flat_map-append}
use Rattle.std.proofs.lemmas.List.Elements.{All-from_recursion}
use Rattle.std.specs.List.{AllByRecursion, AllZip}
use Rattle.pcap_io.specs.declared.forms.Form.{Form}
use Rattle.record_text.specs.declared.records.Record.{Record}
use Rattle.record_text.specs.Lines.{Names, ended_line}
use Rattle.sfc_config.specs.Parts.{Parts}
use Rattle.sfc_routes.specs.Entries.{Entries}
use Rattle.sfc_routes.specs.declared.route_changes.RouteChange.{RouteChange}
use Rattle.worker_run.specs.Batches.{Carried, pushed, records_in}
use Rattle.worker_run.specs.Outputs.{lines_from, packet_out, packets_out}
use Rattle.worker_run.specs.Runners.{Carries}
use Rattle.round_outputs.specs.RoundOutputs.{AreNamed}

-- a frame in place of one that is not there
abbrev pub no_frame : Carried
no_frame = pushed (record { seconds = 0; fraction = 0; original = 0; bytes = [] })

-- the packets of one frame more
pub packets_more : (form : Form) (batch : List Carried) (i : ℕ) (d : Carried) → i < length batch → packets_out form (take i batch) ++ packet_out form (get_or batch i d) ≡ packets_out form (take (i + 1) batch)
packets_more form batch i d below =
    ap (λ bs. packets_out form (take i batch) ++ bs) (sym (append-nil (packet_out form (get_or batch i d))))
    ∙ sym (flat_map-append (packet_out form) (take i batch) (get_or batch i d ∷ []))
    ∙ ap (packets_out form) (sym (take_more batch i d below))

-- all packets, about those of one frame
pub packets_about : (form : Form) (batch : List Carried) (i : ℕ) (d : Carried) → i < length batch
    → (packets_out form (take i batch) ++ packet_out form (get_or batch i d)) ++ packets_out form (drop (i + 1) batch) ≡ packets_out form batch
packets_about form batch i d below =
    ap (λ bs. bs ++ packets_out form (drop (i + 1) batch)) (packets_more form batch i d below)
    ∙ (sym (flat_map-append (packet_out form) (take (i + 1) batch) (drop (i + 1) batch)) ∙ ap (packets_out form) (take-append-drop (i + 1) batch))

-- the lines of some records, and those of others behind them
lines_behind : (roster : Entries) (place : ℕ) (first others : List Record) → lines_from roster place (first ++ others) ≡ lines_from roster place first ++ lines_from roster (place + length first) others
lines_behind roster place [] others = let same : place ≡ place + 0 = omega arith in ap (λ n. lines_from roster n others) same
lines_behind roster place (r ∷ rs) others =
    let same : (place + 1) + length rs ≡ place + length (r ∷ rs) = omega arith in
    ap (λ bs. ended_line roster (place, r) ++ bs) (lines_behind roster (place + 1) rs others ∙ ap (λ n. lines_from roster (place + 1) rs ++ lines_from roster n others) same)
    ∙ sym (append_assoc (ended_line roster (place, r)) (lines_from roster (place + 1) rs) (lines_from roster (place + length (r ∷ rs)) others))

-- the lines of a batch's records from a place on
abbrev pub lines_of : Entries → ℕ → List Carried → List ℕ
lines_of roster place batch = lines_from roster place (records_in batch)

lines_of-append : (roster : Entries) (place : ℕ) (first others : List Carried) → lines_of roster place (first ++ others) ≡ lines_of roster place first ++ lines_of roster (place + length first) others
lines_of-append roster place first others =
    ap (lines_from roster place) (map-append (λ (c : Carried). c.outcome) first others)
    ∙ lines_behind roster place (records_in first) (records_in others)
    ∙ ap (λ n. lines_of roster place first ++ lines_from roster (place + n) (records_in others)) (length-map first (λ (c : Carried). c.outcome))

-- the line of one record more
pub lines_more : (roster : Entries) (place : ℕ) (batch : List Carried) (i : ℕ) (d : Carried) → i < length batch
    → lines_of roster place (take i batch) ++ ended_line roster (place + i, (get_or batch i d).outcome) ≡ lines_of roster place (take (i + 1) batch)
lines_more roster place batch i d below =
    let len : length (take i batch) ≡ i = length-take-le i batch (omega (arith, below)) in
    sym (ap (lines_of roster place) (take_more batch i d below)
    ∙ lines_of-append roster place (take i batch) (get_or batch i d ∷ [])
    ∙ ap (λ bs. lines_of roster place (take i batch) ++ bs) (append-nil (ended_line roster (place + length (take i batch), (get_or batch i d).outcome)))
    ∙ ap (λ n. lines_of roster place (take i batch) ++ ended_line roster (place + n, (get_or batch i d).outcome)) len)

-- all lines, about that of one record
pub lines_about : (roster : Entries) (place : ℕ) (batch : List Carried) (i : ℕ) (d : Carried) → i < length batch
    → (lines_of roster place (take i batch) ++ ended_line roster (place + i, (get_or batch i d).outcome)) ++ lines_of roster (place + length (take (i + 1) batch)) (drop (i + 1) batch) ≡ lines_of roster place batch
lines_about roster place batch i d below =
    ap (λ bs. bs ++ lines_of roster (place + length (take (i + 1) batch)) (drop (i + 1) batch)) (lines_more roster place batch i d below)
    ∙ (sym (lines_of-append roster place (take (i + 1) batch) (drop (i + 1) batch)) ∙ ap (lines_of roster place) (take-append-drop (i + 1) batch))

each_named : (setup : Parts) (changes : List RouteChange) (old new : List Carried) → AllZip (λ c d. Carries setup changes c d) old new → AllByRecursion (λ (c : Carried). Names setup.roster c.outcome) new
each_named setup changes [] [] each = tt
each_named setup changes [] (d ∷ ds) each = absurd each
each_named setup changes (c ∷ cs) [] each = absurd each
each_named setup changes (c ∷ cs) (d ∷ ds) each = (each.0.named, each_named setup changes cs ds each.1)

-- after a round each record names instances of the roster alone
pub named_after : (setup : Parts) (changes : List RouteChange) (old new : List Carried) → AllZip (λ c d. Carries setup changes c d) old new → AreNamed setup.roster new
named_after setup changes old new each = All-from_recursion (λ (c : Carried). Names setup.roster c.outcome) new (each_named setup changes old new each)
