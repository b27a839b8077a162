-- What is known of the bytes of a desk over files after a call on the slot of one port.
use Rattle.std.proofs.Common.{◌≡◌, ℕ, List, Option, None, Result, slice_set, sym, subst}
use Rattle.std.specs.Io.KnownBytes.{ReadConsumes, WriteAppends}
use Rattle.sfc_desk.specs.declared.file_slots.FileSlot.{FileSlot}
use Rattle.sfc_desk.specs.declared.ports.Port.{Port}
use Rattle.sfc_desk.specs.FileSlots.{left_known, taken_known}
use Rattle.sfc_desk.specs.Files.{left_at, taken_at}
use Rattle.sfc_desk.proofs.SlotLemmas.{Changes, found_before, found_after}

-- what the slot's read consumed
pub given : {F E : Type 0} (remaining : F → Option (List ℕ)) (slots : List (FileSlot F)) (port : Port) (n : ℕ) (old new : FileSlot F) (result : Result ℕ E) (into : List ℕ) → Changes slots port n old new → ReadConsumes (left_known remaining old) (left_known remaining new) result into → ReadConsumes (left_at remaining slots port) (left_at remaining (slice_set slots n new) port) result into
given remaining slots port n old new result into change h =
    let before : left_at remaining slots port ≡ left_known remaining old = found_before (left_known remaining) None slots port n old new change in
    let after : left_at remaining (slice_set slots n new) port ≡ left_known remaining new = found_after (left_known remaining) None slots port n old new change in
    subst (λ (known : Option (List ℕ)). ReadConsumes known (left_at remaining (slice_set slots n new) port) result into) (sym before) (subst (λ (known : Option (List ℕ)). ReadConsumes (left_known remaining old) known result into) (sym after) h)

-- what the slot's write appended
pub taken : {F O E : Type 0} (of_file : F → Option (List ℕ)) (of_output : O → Option (List ℕ)) (slots : List (FileSlot F)) (port : Port) (n : ℕ) (old new : FileSlot F) (output-old output-new : O) (result : Result ℕ E) (bytes : List ℕ) → Changes slots port n old new → WriteAppends (taken_known of_file of_output old output-old) (taken_known of_file of_output new output-new) result bytes → WriteAppends (taken_at of_file of_output slots output-old port) (taken_at of_file of_output (slice_set slots n new) output-new port) result bytes
taken of_file of_output slots port n old new output-old output-new result bytes change h =
    let before : taken_at of_file of_output slots output-old port ≡ taken_known of_file of_output old output-old = found_before (λ slot. taken_known of_file of_output slot output-old) None slots port n old new change in
    let after : taken_at of_file of_output (slice_set slots n new) output-new port ≡ taken_known of_file of_output new output-new = found_after (λ slot. taken_known of_file of_output slot output-new) None slots port n old new change in
    subst (λ (known : Option (List ℕ)). WriteAppends known (taken_at of_file of_output (slice_set slots n new) output-new port) result bytes) (sym before) (subst (λ (known : Option (List ℕ)). WriteAppends (taken_known of_file of_output old output-old) known result bytes) (sym after) h)
