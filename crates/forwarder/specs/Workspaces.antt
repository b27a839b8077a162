-- What a workspace shows.
use Rattle.std.specs.Prelude.{ℕ, List}
use Rattle.net_frames.specs.Captured.{Captured}
use Rattle.path_selection.specs.Published.{Published}
use Rattle.record_text.specs.declared.records.Record.{Record}
use Rattle.sfc_config.specs.Parts.{Parts}
use Rattle.forwarder.specs.Records.{IsRecord}
use Rattle.forwarder.specs.Traces.{KeepsTrace, Worked}

-- a frame that is handed in, in a room for 262,144 captured bytes
abbrev pub taken_in : List ℕ → ℕ → Captured
taken_in bytes original = record { room = 262144; bytes = bytes; original = original }

-- the record is that of the frame's walk, and the workspace keeps the packets of the same walk
pub record Forwarded (setup : Parts) (frame : Captured) (worker : ℕ) (known : List Published) (before after : ℕ) (work : Worked) (r : Record) : Type 0 where
  pub record_is : IsRecord setup frame worker known before after r
  pub traces : KeepsTrace work.traced record_is.walk.stations work.packets
