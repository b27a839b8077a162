-- One port of a desk over files: what is known of the bytes that move through it, and which file it reads.
use Rattle.std.specs.Prelude.{ℕ, Bool, false, ◌&&◌, ◌==◌, List, Option, Some, None, Result, Ok, Err}
use Rattle.sfc_desk.specs.declared.file_slots.Identity.{Identity}
use Rattle.sfc_desk.specs.declared.file_slots.FileSlot.{FileSlot}
use Rattle.sfc_desk.specs.declared.file_slots.Opened.{Opened}
use Rattle.sfc_desk.specs.declared.file_slots.Opened.TheVariants.{Input, Output, StandardOutput}

-- what a bind leaves open
abbrev pub opened_by : {F E : Type 0} → Result (Opened F) E → Option (Opened F)
opened_by (Ok opened) = Some opened
opened_by (Err reason) = None

-- the bytes that an input has still to give, where its file tells them
abbrev pub left_in : {F : Type 0} → (F → Option (List ℕ)) → Option (Opened F) → Option (List ℕ)
left_in remaining None = None
left_in remaining (Some (Input input)) = remaining input.file
left_in remaining (Some (Output file)) = None
left_in remaining (Some StandardOutput) = None

abbrev pub left_known : {F : Type 0} → (F → Option (List ℕ)) → FileSlot F → Option (List ℕ)
left_known remaining slot = left_in remaining slot.opened

-- the bytes that an output holds, where its file or standard output tells them
abbrev pub taken_in : {F O : Type 0} → (F → Option (List ℕ)) → (O → Option (List ℕ)) → Option (Opened F) → O → Option (List ℕ)
taken_in of_file of_output None output = None
taken_in of_file of_output (Some (Input input)) output = None
taken_in of_file of_output (Some (Output file)) output = of_file file
taken_in of_file of_output (Some StandardOutput) output = of_output output

abbrev pub taken_known : {F O : Type 0} → (F → Option (List ℕ)) → (O → Option (List ℕ)) → FileSlot F → O → Option (List ℕ)
taken_known of_file of_output slot output = taken_in of_file of_output slot.opened output

-- a bound input is this file
abbrev pub is_same : Identity → Option Identity → Bool
is_same found None = false
is_same found (Some own) = (own.device == found.device) && (own.number == found.number)

abbrev pub is_read : {F : Type 0} → Identity → Option (Opened F) → Bool
is_read found None = false
is_read found (Some (Input input)) = is_same found input.identity
is_read found (Some (Output file)) = false
is_read found (Some StandardOutput) = false

abbrev pub is_input_file : {F : Type 0} → Identity → FileSlot F → Bool
is_input_file found slot = is_read found slot.opened
