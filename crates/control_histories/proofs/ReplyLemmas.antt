-- The replies to segments that come behind others.
use Rattle.std.proofs.Common.{◌≡◌, List, [], ◌∷◌, ◌++◌, map, refl, sym, ap, ◌∙◌, append_assoc}
use Rattle.std.specs.List.{flat_map}
use Rattle.std.proofs.lemmas.Grind.{flat_map-append}
use Rattle.control_files.specs.declared.segments.Segment.{Segment}
use Rattle.control_files.specs.Segments.{segment_bytes}
use Rattle.session_machine.specs.Groups.{Entry}
use Rattle.control_histories.specs.Happenings.{Logs, said_by, told_by}
use Rattle.control_histories.specs.Replies.{reply_to, replies_of, reply_bytes}

pub replies_behind : (segments more : List Segment) (log behind : List Entry) → Logs segments log → replies_of (segments ++ more) (log ++ behind) ≡ replies_of segments log ++ replies_of more behind
replies_behind [] more [] behind logs = refl
replies_behind [] more (e ∷ es) behind logs = absurd (cc)
replies_behind (s ∷ ss) more [] behind logs = absurd (cc)
replies_behind (s ∷ ss) more (e ∷ es) behind logs =
    let rest : map told_by es ≡ map said_by ss = cc in
    ap (λ (l : List Segment). reply_to s.peer s.moment s.position e.effects.bytes ++ l) (replies_behind ss more es behind rest)
    ∙ sym (append_assoc (reply_to s.peer s.moment s.position e.effects.bytes) (replies_of ss es) (replies_of more behind))

pub bytes_behind : (segments more : List Segment) (log behind : List Entry) → Logs segments log → reply_bytes (segments ++ more) (log ++ behind) ≡ reply_bytes segments log ++ reply_bytes more behind
bytes_behind segments more log behind logs =
    ap (λ (l : List Segment). flat_map segment_bytes l) (replies_behind segments more log behind logs)
    ∙ flat_map-append segment_bytes (replies_of segments log) (replies_of more behind)
