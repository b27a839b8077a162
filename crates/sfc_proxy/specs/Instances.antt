-- What an instance does with a frame and its header (RFC 7665, sections 4.2 and 4.6; RFC 8300, section 2.3).
use Rattle.std.specs.Prelude.{◌≡◌, ℕ, ◌-◌, List, slice_index, slice_set}
use Rattle.net_frames.specs.Captured.{Captured}
use Rattle.nsh_metadata.specs.Header.{Header, IsNsh, BeginsWith}
use Rattle.nsh_metadata.specs.Changes.{with_index}
use Rattle.service_functions.specs.Serving.{Serve, ServeFrame, ServeHeader}
use Rattle.service_functions.specs.declared.functions.Function.{Function}
use Rattle.service_functions.specs.declared.answers.Served.{Served}
use Rattle.service_functions.specs.declared.answers.Served.TheVariants.{Passed, Dropped}

-- the header behind an instance: where the frame passed, its service index is 1 lower
abbrev pub moved_on : Served → Header → Header
moved_on Passed header = with_index header (header.head.path.si - 1)
moved_on (Dropped why) header = header

-- an instance that sees the header: it serves, and the header that this leaves moves on
abbrev pub ServeAware : Function → Captured → Header → Served → Captured → Header → Type 0
ServeAware f frame header served frame' header' = (left : Header) × Serve f frame header served frame' left × (header' ≡ moved_on served left)

-- an instance behind a proxy, whose function does not see the header: all of it moves on as it was
abbrev pub ServeUnaware : Function → Captured → Header → Served → Captured → Header → Type 0
ServeUnaware f frame header served frame' header' = ServeFrame f frame served frame' × (header' ≡ moved_on served header)

-- the bytes of a header behind an instance: where the frame passed, the eighth, the service index, is 1 lower
abbrev pub bytes_moved_on : Served → List ℕ → List ℕ
bytes_moved_on Passed bytes = slice_set bytes 7 (slice_index bytes 7 - 1)
bytes_moved_on (Dropped why) bytes = bytes

-- ---- where a header lies

-- the function serves the header that the first `size` bytes spell; the first `end` bytes then spell what it leaves
abbrev pub ServeHeaderAt : Function → List ℕ → ℕ → Served → List ℕ → ℕ → Type 0
ServeHeaderAt f bytes size served bytes' end =
    (h : Header) → BeginsWith bytes h size → (k : Header) × ServeHeader f h served k × BeginsWith bytes' k end

-- and a frame with it
abbrev pub ServeAt : Function → Captured → List ℕ → ℕ → Served → Captured → List ℕ → ℕ → Type 0
ServeAt f frame bytes size served frame' bytes' end =
    (h : Header) → BeginsWith bytes h size → (k : Header) × Serve f frame h served frame' k × BeginsWith bytes' k end

-- an instance that sees the header serves it there
abbrev pub ServeAwareAt : Function → Captured → List ℕ → ℕ → Served → Captured → List ℕ → ℕ → Type 0
ServeAwareAt f frame bytes size served frame' bytes' end =
    (h : Header) → BeginsWith bytes h size → (k : Header) × ServeAware f frame h served frame' k × BeginsWith bytes' k end

-- so does an instance behind a proxy, where all of the bytes spell the header
abbrev pub ServeUnawareAt : Function → Captured → List ℕ → Served → Captured → List ℕ → Type 0
ServeUnawareAt f frame bytes served frame' bytes' =
    (h : Header) → IsNsh bytes h → (k : Header) × ServeUnaware f frame h served frame' k × IsNsh bytes' k
