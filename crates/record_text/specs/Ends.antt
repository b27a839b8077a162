-- The end of a walk, as a record line tells it.
use Rattle.std.specs.Prelude.{ℕ, ◌≤◌, List, [], ◌∷◌, ◌++◌, codes}
use Rattle.std.specs.Fmt.{decimal}
use Rattle.sfc_routes.specs.Entries.{Entries}
use Rattle.record_text.specs.declared.records.End.{End}
use Rattle.record_text.specs.declared.records.End.TheVariants.{Egress, Bypass, Drop}
use Rattle.record_text.specs.declared.records.Reason.{Reason}
use Rattle.record_text.specs.declared.records.Reason.TheVariants.{Rule, NshIngress, Ttl, NoPath, NoInstance, Denied, HopLimit, Meta, MetaFull, TooLong}
use Rattle.record_text.specs.Names.{IsInstance, instance_text}

-- a word, and in brackets what it tells more
abbrev pub bracketed : List ℕ → List ℕ → List ℕ
bracketed word more = word ++ 40 ∷ (more ++ 41 ∷ [])

-- why a frame was dropped
abbrev pub reason_text : Entries → Reason → List ℕ
reason_text roster Rule = codes "rule"
reason_text roster NshIngress = codes "nsh-ingress"
reason_text roster Ttl = codes "ttl"
reason_text roster NoPath = codes "no-path"
reason_text roster (NoInstance si) = bracketed (codes "no-instance") (decimal si)
reason_text roster (Denied i) = bracketed (codes "denied") (instance_text roster i)
reason_text roster (HopLimit i) = bracketed (codes "hop-limit") (instance_text roster i)
reason_text roster (Meta i) = bracketed (codes "meta") (instance_text roster i)
reason_text roster (MetaFull i) = bracketed (codes "meta-full") (instance_text roster i)
reason_text roster (TooLong i) = bracketed (codes "too-long") (instance_text roster i)

-- how a walk ended
abbrev pub end_text : Entries → End → List ℕ
end_text roster Egress = codes "egress"
end_text roster Bypass = codes "bypass"
end_text roster (Drop reason) = codes "drop:" ++ reason_text roster reason

-- the instance that it names, if it names one, is of the roster
abbrev pub ReasonNames : Entries → Reason → Type 0
ReasonNames roster (Denied i) = IsInstance roster i
ReasonNames roster (HopLimit i) = IsInstance roster i
ReasonNames roster (Meta i) = IsInstance roster i
ReasonNames roster (MetaFull i) = IsInstance roster i
ReasonNames roster (TooLong i) = IsInstance roster i
ReasonNames roster _ = Unit {0}

abbrev pub EndNames : Entries → End → Type 0
EndNames roster (Drop reason) = ReasonNames roster reason
EndNames roster _ = Unit {0}

-- a service index has 8 bits (RFC 8300, section 2.3)
abbrev pub ReasonFits : Entries → Reason → Type 0
ReasonFits roster (NoInstance si) = si ≤ 255
ReasonFits roster reason = ReasonNames roster reason

abbrev pub EndFits : Entries → End → Type 0
EndFits roster (Drop reason) = ReasonFits roster reason
EndFits roster _ = Unit {0}
