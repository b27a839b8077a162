-- The number and the line of each status.
use Rattle.std.specs.Prelude.{ℕ, List, ◌++◌, codes, decimal}
use Rattle.sfc_desk.specs.declared.ports.Port.{Port}
use Rattle.sfc_desk.specs.declared.ports.Port.TheVariants.{Setup, Capture as CapturePort, Control, Records, Routes, Source, Egress, Lines, Replies, Trace, Made, Report}
use Rattle.pcap_io.specs.declared.reasons.CaptureReason.{CaptureReason}
use Rattle.pcap_io.specs.declared.reasons.CaptureReason.TheVariants as reasons
use Rattle.sfc_config.specs.declared.faults.SetupReason.{SetupReason}
use Rattle.sfc_config.specs.declared.faults.SetupReason.TheVariants as setups
use Rattle.control_files.specs.declared.reasons.ControlReason.{ControlReason}
use Rattle.control_files.specs.declared.reasons.ControlReason.TheVariants as controls
use Rattle.pcapng_io.specs.declared.faults.NgReason.{NgReason}
use Rattle.pcapng_io.specs.declared.faults.NgReason.TheVariants as ngs
use Rattle.commands.specs.declared.statuses.Status.{Status}
use Rattle.commands.specs.declared.statuses.Status.TheVariants.{Ok, Words, File, Setup as SetupStatus, Capture, Control as ControlStatus, Memory, Records as RecordsStatus, Long, Pcapng}

-- the number with which the program ends
abbrev pub number_of : Status → ℕ
number_of Ok = 0
number_of Words = 2
number_of (File port) = 3
number_of (SetupStatus line reason) = 4
number_of (Capture place reason) = 5
number_of (ControlStatus place reason) = 6
number_of Memory = 7
number_of (RecordsStatus line) = 8
number_of (Long port) = 10
number_of (Pcapng place reason) = 12

-- the word of a port
abbrev pub port_text : Port → List ℕ
port_text Setup = codes "setup"
port_text CapturePort = codes "capture"
port_text Control = codes "control"
port_text Records = codes "records"
port_text Routes = codes "routes"
port_text Source = codes "source"
port_text Egress = codes "egress"
port_text Lines = codes "lines"
port_text Replies = codes "replies"
port_text Trace = codes "trace"
port_text Made = codes "made"
port_text Report = codes "report"

-- the word of a reason
abbrev pub reason_text : CaptureReason → List ℕ
reason_text reasons.Magic = codes "magic"
reason_text reasons.Version = codes "version"
reason_text reasons.Link = codes "link"
reason_text reasons.Length = codes "length"
reason_text reasons.Original = codes "original"
reason_text reasons.Time = codes "time"
reason_text reasons.Short = codes "short"

-- of a setup
abbrev pub setup_reason_text : SetupReason → List ℕ
setup_reason_text setups.Byte = codes "byte"
setup_reason_text setups.Word = codes "word"
setup_reason_text setups.Shape = codes "shape"
setup_reason_text setups.Count = codes "count"
setup_reason_text setups.Name = codes "name"
setup_reason_text setups.Twice = codes "twice"
setup_reason_text setups.Mode = codes "mode"
setup_reason_text setups.Missing = codes "missing"
setup_reason_text setups.NoPeer = codes "no-peer"

-- of a control file
abbrev pub control_reason_text : ControlReason → List ℕ
control_reason_text controls.Kind = codes "kind"
control_reason_text controls.Peer = codes "peer"
control_reason_text controls.Moment = codes "moment"
control_reason_text controls.Position = codes "position"
control_reason_text controls.Length = codes "length"
control_reason_text controls.Short = codes "short"

-- of a pcapng file
abbrev pub ng_reason_text : NgReason → List ℕ
ng_reason_text ngs.Magic = codes "magic"
ng_reason_text ngs.Block = codes "block"
ng_reason_text ngs.Version = codes "version"
ng_reason_text ngs.Option = codes "option"
ng_reason_text ngs.Resolution = codes "resolution"
ng_reason_text ngs.Interface = codes "interface"
ng_reason_text ngs.Length = codes "length"
ng_reason_text ngs.Original = codes "original"
ng_reason_text ngs.Time = codes "time"
ng_reason_text ngs.Short = codes "short"

-- a word, a place or a line, and the word of a reason
abbrev pub refusal_text : List ℕ → ℕ → List ℕ → List ℕ
refusal_text word place reason = word ++ codes " " ++ decimal place ++ codes " " ++ reason

-- the status as a line, without its end
abbrev pub line_of : Status → List ℕ
line_of Ok = codes "ok"
line_of Words = codes "words"
line_of (File port) = codes "file " ++ port_text port
line_of (SetupStatus number reason) = refusal_text (codes "setup") number (setup_reason_text reason)
line_of (Capture place reason) = refusal_text (codes "capture") place (reason_text reason)
line_of (ControlStatus place reason) = refusal_text (codes "control") place (control_reason_text reason)
line_of Memory = codes "memory"
line_of (RecordsStatus number) = codes "records " ++ decimal number
line_of (Long port) = codes "long " ++ port_text port
line_of (Pcapng place reason) = refusal_text (codes "pcapng") place (ng_reason_text reason)
