-- Messages and their one spelling (RFC 4271, section 4), and the cut of a stream into messages.
use Rattle.std.specs.Prelude.{◌≡◌, ◌≢◌, ℕ, ◌+◌, ◌≤◌, List, [], ◌∷◌, ◌++◌, length, replicate}
use Rattle.std.specs.List.{flat_map, AllByRecursion}
use Rattle.bgp_messages.specs.declared.messages.Message.{Message}
use Rattle.bgp_messages.specs.declared.messages.Message.TheVariants as variants
use Rattle.wire_base.specs.Numbers.{two}
use Rattle.bgp_messages.specs.Opens.{open_bytes, OpenFits}

-- the number of a message's type
abbrev pub type_of : Message → ℕ
type_of (variants.Open o) = 1
type_of (variants.Update u) = 2
type_of (variants.Notification n) = 3
type_of variants.KeepAlive = 4

-- what stands behind a message's header; an UPDATE's is kept unread
abbrev pub content : Message → List ℕ
content (variants.Open o) = open_bytes o
content (variants.Update u) = u
content (variants.Notification n) = n.code ∷ n.subcode ∷ n.info
content variants.KeepAlive = []

-- an OPEN's fields fit, and an UPDATE has its two lengths
abbrev pub ContentFits : Message → Type 0
ContentFits (variants.Open o) = OpenFits o
ContentFits (variants.Update u) = 4 ≤ length u
ContentFits (variants.Notification n) = Unit {0}
ContentFits variants.KeepAlive = Unit {0}

-- sixteen bytes FF, the length of the whole message, its type, its content
unfoldable pub spelling : Message → List ℕ
spelling m = replicate 16 255 ++ two (19 + length (content m)) ++ type_of m ∷ content m

-- what has a spelling: at most 4,096 bytes in all
pub record Fits (m : Message) : Type 0 where
  pub parts : ContentFits m
  pub size : 19 + length (content m) ≤ 4096

-- the bytes are the message, all of them
pub record IsMessage (bytes : List ℕ) (m : Message) : Type 0 where
  pub spelled : bytes ≡ spelling m
  pub fits : Fits m

-- the bytes begin with no whole message
abbrev pub BeginsNone : List ℕ → Type 0
BeginsNone bytes = (m : Message) (more : List ℕ) → Fits m → bytes ≢ spelling m ++ more

-- the stream is these messages, and a rest that begins with no further one
pub record Cuts (stream : List ℕ) (ms : List Message) (rest : List ℕ) : Type 0 where
  pub joined : stream ≡ flat_map spelling ms ++ rest
  pub each : AllByRecursion Fits ms
  pub ended : BeginsNone rest
