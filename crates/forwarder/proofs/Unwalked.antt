-- A frame that no rule puts on a path.
use Rattle.std.proofs.Common.{◌≡◌, ℕ, Bool, List, [], Option, Some, None, MatchOption, refl, sym, ap, subst}
use Rattle.nsh_metadata.specs.Header.{Header}
use Rattle.nsh_metadata.specs.declared.contexts.Context.{Context}
use Rattle.service_functions.specs.declared.functions.Function.{Function}
use Rattle.net_frames.specs.Captured.{Captured}
use Rattle.path_selection.specs.Published.{Published}
use Rattle.record_text.specs.declared.records.End.{End}
use Rattle.record_text.specs.declared.records.Record.{Record}
use Rattle.classifier.specs.declared.verdicts.Verdict.{Verdict}
use Rattle.classifier.specs.Verdicts.{Start}
use Rattle.classifier.specs.declared.verdicts.Verdict.TheVariants.{Path}
use Rattle.sfc_config.specs.Parts.{Parts}
use Rattle.forwarder.specs.Walks.{WalksBy, WalksFrom, functions_of, no_walk}
use Rattle.classifier.specs.Stations.{first_header, first_station}
use Rattle.forwarder.specs.Kept.{WalkedFrom}
use Rattle.forwarder.specs.Traces.{KeepsTrace, Traced, Worked}
use Rattle.forwarder.specs.Workspaces.{Forwarded}
use Rattle.forwarder.specs.Records.{HasSeen, IsRecord, Looks}

-- no lookup named nothing
pub no_look : (known : List Published) (seen : ℕ) → Looks known seen [] [] seen
no_look known seen = record { named = refl; climbs = refl }

pub none_seen : (known : List Published) (seen : ℕ) → HasSeen known seen seen
none_seen known seen = ([], [], no_look known seen)

abbrev pub unwalked_record : (setup given : Parts) (frame filled : Captured) (worker : ℕ) (known : List Published) (seen : ℕ) (verdict : Verdict) (end : End) (r : Record)
    → given ≡ setup → filled ≡ frame → Start given.rules filled.bytes verdict → WalksBy setup frame verdict (no_walk end)
    → r ≡ record { worker = worker; path = None; versions = record { items = [] }; visits = record { items = [] }; end = end }
    → IsRecord setup frame worker known seen seen r
unwalked_record setup given frame filled worker known seen verdict end r same_setup same_frame start walks is = record {
  walk = no_walk end;
  walks = record {
    verdict = verdict;
    begins =
        subst (λ (p : Parts). Start p.rules frame.bytes verdict) same_setup (subst (λ (f : Captured). Start given.rules f.bytes verdict) same_frame start);
    walks = walks;
  };
  looks = subst (λ (l : List ℕ). Looks known seen l [] seen) (sym (ap (λ (x : Record). x.versions.items) is)) (no_look known seen);
  tells = record { path = ap (λ (x : Record). x.path) is; visits = ap (λ (x : Record). x.visits.items) is; end = ap (λ (x : Record). x.end) is };
  worker_is = ap (λ (x : Record). x.worker) is;
}

-- and no packets
pub unwalked_forwarded : (setup given : Parts) (frame filled : Captured) (worker : ℕ) (known : List Published) (seen : ℕ) (verdict : Verdict) (end : End) (r : Record) (work : Worked)
    → given ≡ setup → filled ≡ frame → Start given.rules filled.bytes verdict → WalksBy setup frame verdict (no_walk end)
    → r ≡ record { worker = worker; path = None; versions = record { items = [] }; visits = record { items = [] }; end = end } → work.packets ≡ []
    → Forwarded setup frame worker known seen seen work r
unwalked_forwarded setup given frame filled worker known seen verdict end r work same_setup same_frame start walks is no_packets = record {
  record_is = unwalked_record setup given frame filled worker known seen verdict end r same_setup same_frame start walks is;
  traces = record { whole = λ kept. no_packets; none = λ kept. no_packets };
}

-- ---- a frame on a path

-- the record of a walk from the first station is that of the frame, with its packets
pub path_forwarded : (setup given : Parts) (frame filled : Captured) (worker : ℕ) (known : List Published) (before after : ℕ) (trace : Traced) (r : Record) (spi si ttl : ℕ) (context : Context) (first : Header) (functions : List Function) (work : Worked)
    → given ≡ setup → filled ≡ frame → Start given.rules filled.bytes (Path spi si ttl context) → first ≡ first_header spi si ttl context → functions ≡ functions_of given.instances
    → work.traced ≡ trace.kept → work.packets ≡ trace.packets
    → WalkedFrom functions (first_station given.ingress filled first) worker known before after trace r → Forwarded setup frame worker known before after work r
path_forwarded setup given frame filled worker known before after trace r spi si ttl context first functions work same_setup same_frame start first-is functions-are traced packets walked =
    let by_functions = subst (λ (fs : List Function). WalksFrom fs (first_station given.ingress filled first) walked.walk) functions-are walked.walks in
    let by_header = subst (λ (h : Header). WalksFrom (functions_of given.instances) (first_station given.ingress filled h) walked.walk) first-is by_functions in
    let by_frame = subst (λ (f : Captured). WalksFrom (functions_of given.instances) (first_station given.ingress f (first_header spi si ttl context)) walked.walk) same_frame by_header in
    let by_setup = subst (λ (p : Parts). WalksFrom (functions_of p.instances) (first_station p.ingress frame (first_header spi si ttl context)) walked.walk) same_setup by_frame in
    let begins = subst (λ (p : Parts). Start p.rules frame.bytes (Path spi si ttl context)) same_setup (subst (λ (f : Captured). Start given.rules f.bytes (Path spi si ttl context)) same_frame start) in
    let kept = subst (λ (b : Bool). KeepsTrace b walked.walk.stations trace.packets) (sym traced) walked.traces in
    record {
      record_is = record {
        walk = walked.walk;
        walks = record { verdict = Path spi si ttl context; begins = begins; walks = by_setup };
        looks = walked.looks;
        tells = walked.tells;
        worker_is = walked.worker_is;
      };
      traces = subst (λ (l : List (List ℕ)). KeepsTrace work.traced walked.walk.stations l) (sym packets) kept;
    }

-- what holds of the record that is there holds of what follows from it
pub match_on : {A : Type 0} (P : Type 0) (Q R : A → Type 0) (o : Option A) → ((x : A) → Q x → R x) → MatchOption o P Q → MatchOption o P R
match_on P Q R None on m = m
match_on P Q R (Some x) on m = on x m
