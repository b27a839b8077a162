-- What the readers of parts of a line answer, step by step. The grammar does not stand on it.
use Rattle.std.specs.Prelude.{◌≡◌, ℕ, List, [], ◌∷◌, ◌++◌, map, codes}
use Rattle.std.specs.List.{flat_map}
use Rattle.std.specs.Fmt.{decimal}
use Rattle.wire_base.specs.declared.ids.ForwarderId.{ForwarderId}
use Rattle.wire_base.specs.declared.ids.InstanceId.{InstanceId}
use Rattle.path_selection.specs.declared.hops.HopRow.{HopRow}
use Rattle.sfc_routes.specs.Entries.{Entries}
use Rattle.record_text.specs.declared.records.Reason.{Reason}
use Rattle.record_text.specs.declared.records.Reason.TheVariants.{Rule, NshIngress, Ttl, NoPath, NoInstance, Denied, HopLimit, Meta, MetaFull, TooLong}
use Rattle.record_text.specs.declared.reason_words.ReasonWord.{ReasonWord}
use Rattle.record_text.specs.declared.reason_words.ReasonWord.TheVariants as word
use Rattle.record_text.specs.Names.{instance_text, forwarder_text}
use Rattle.record_text.specs.Tables.{hop_text}
use Rattle.record_text.specs.declared.records.Record.{Record}
use Rattle.record_text.specs.Lists.{list_text}
use Rattle.record_text.specs.Ends.{ReasonFits, end_text}

-- the first word of a reason
abbrev pub reason_word_text : ReasonWord → List ℕ
reason_word_text word.Rule = codes "rule"
reason_word_text word.NshIngress = codes "nsh-ingress"
reason_word_text word.Ttl = codes "ttl"
reason_word_text word.NoPath = codes "no-path"
reason_word_text word.NoInstance = codes "no-instance"
reason_word_text word.Denied = codes "denied"
reason_word_text word.HopLimit = codes "hop-limit"
reason_word_text word.Meta = codes "meta"
reason_word_text word.MetaFull = codes "meta-full"
reason_word_text word.TooLong = codes "too-long"

abbrev pub word_of : Reason → ReasonWord
word_of Rule = word.Rule
word_of NshIngress = word.NshIngress
word_of Ttl = word.Ttl
word_of NoPath = word.NoPath
word_of (NoInstance si) = word.NoInstance
word_of (Denied i) = word.Denied
word_of (HopLimit i) = word.HopLimit
word_of (Meta i) = word.Meta
word_of (MetaFull i) = word.MetaFull
word_of (TooLong i) = word.TooLong

-- what stands behind the opening bracket, with the closing one
abbrev pub closed : List ℕ → List (List ℕ)
closed more = (more ++ 41 ∷ []) ∷ []

-- the pieces of a reason behind its first one, cut at opening brackets
abbrev pub told_pieces : Entries → Reason → List (List ℕ)
told_pieces roster (NoInstance si) = closed (decimal si)
told_pieces roster (Denied i) = closed (instance_text roster i)
told_pieces roster (HopLimit i) = closed (instance_text roster i)
told_pieces roster (Meta i) = closed (instance_text roster i)
told_pieces roster (MetaFull i) = closed (instance_text roster i)
told_pieces roster (TooLong i) = closed (instance_text roster i)
told_pieces roster _ = []

-- all pieces of a reason
abbrev pub reason_pieces : Entries → Reason → List (List ℕ)
reason_pieces roster reason = reason_word_text (word_of reason) ∷ told_pieces roster reason

-- a reason with this first word, in its ranges
abbrev pub IsReasonOf : Entries → ReasonWord → Reason → Type 0
IsReasonOf roster w reason = (word_of reason ≡ w) × ReasonFits roster reason

-- the end of a line, from the word of the visits on
abbrev pub way_text : Entries → Record → List ℕ
way_text roster r =
    codes " visits=" ++ (list_text (map (instance_text roster) r.visits.items) ++ (codes " end=" ++ (end_text roster r.end ++ 10 ∷ [])))

-- an instance at its forwarder, and the hops of a path, each behind a space
abbrev pub at_text : Entries → ForwarderId → InstanceId → List ℕ
at_text roster f i = instance_text roster i ++ 64 ∷ forwarder_text roster f

abbrev pub hops_behind : Entries → List HopRow → List ℕ
hops_behind roster rows = flat_map (λ row. 32 ∷ hop_text roster row) rows
