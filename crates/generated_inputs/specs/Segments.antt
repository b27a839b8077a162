-- The segments of generated inputs: all routes are announced first, and then the firewall's route goes and comes in turn.
use Rattle.std.specs.Prelude.{ℕ, ◌+◌, ◌-◌, ◌*◌, ◌/◌, ◌%◌, ◌==◌, if◌then◌else◌, List, ◌++◌, map}
use Rattle.std.specs.List.{range_with_len}
use Rattle.bgp_session.specs.declared.local_sides.Local.{Local}
use Rattle.bgp_messages.specs.declared.messages.Message.{Message}
use Rattle.control_files.specs.declared.segments.Segment.{Segment}
use Rattle.announced_files.specs.Announced.{announced, said_at}
use Rattle.announced_files.specs.Announcements.{announcing, withdrawing}
use Rattle.generated_inputs.specs.Routes.{firewall_route, generated_routes}

-- the message of the change with this number, counted from 1, to a local side of this AS: a withdrawal, then an announcement, in turn
abbrev pub change_of : (own number : ℕ) → Message
change_of own number = if number % 2 == 1 then withdrawing firewall_route else announcing own 65001 firewall_route

-- it stands before the frame of 64 times its number
abbrev pub change_at : (own number : ℕ) → Segment
change_at own number = said_at (64 * number) 1 (change_of own number)

-- one before each frame whose number is a multiple of 64, but for the first
abbrev pub changes_for : (own count : ℕ) → List Segment
changes_for own count = map (λ number. change_at own number) (range_with_len 1 ((count - 1) / 64))

abbrev pub generated_segments : Local → ℕ → List Segment
generated_segments local count = announced local 1 65001 generated_routes ++ changes_for local.asn count
