-- From one output to all three, and from one put to the next.
use Rattle.std.proofs.Common.{◌≡◌, ◌≢◌, inl, inr, Bool, true, ℕ, List, [], ◌++◌, append-nil, append_assoc, Result, Ok, Err, OnOk, refl, sym, ap, subst, ◌∙◌, arith}
use Rattle.sfc_desk.specs.declared.ports.Port.{Port}
use Rattle.sfc_desk.specs.declared.ports.Port.TheVariants as ports
use Rattle.sfc_desk.specs.Desks.{Shown, Files, Rose, Moves}
use Rattle.commands.specs.declared.writing.WriteFault.{WriteFault}
use Rattle.commands.specs.declared.writing.WriteFault.TheVariants as write
use Rattle.commands.specs.Fronts.{IsFront}
use Rattle.commands.specs.Pieces.{SameCounts, Waiting}
use Rattle.commands.proofs.FrontLemmas.{front_of_same}
use Rattle.setup_inputs.proofs.MoveLemmas.{none_bound}
use Rattle.round_inputs.specs.declared.halts.Halt.{Halt}
use Rattle.round_inputs.specs.declared.halts.Halt.TheVariants as halts
use Rattle.round_inputs.specs.Halts.{Counts, IsPort}
use Rattle.round_inputs.proofs.HaltLemmas.{counts_after, counts_halt}
use Rattle.file_runs.specs.declared.run_outputs.RunOutputs.{RunOutputs}
use Rattle.file_runs.specs.Means.{NeverLong, WritesOutputs, halt_of_fault}
use Rattle.file_runs.specs.RunPuts.{OutsOpen, OutsFinish, IsOutput, NothingWaits, OutsPut, OutsFronts, PutsAt, PutsTexts, Texts, nothing_more, texts_behind}

-- ---- one put

-- what a put at the own port says where its answer is put in other words
pub put_ok : (tells : Bool) (own : Port) (then now : Port → Shown) (had has : Files) (old new : Waiting) (bytes : List ℕ) → new.port ≡ own
    → (tells ≡ true → (now own).written ++ new.bytes ≡ ((then own).written ++ old.bytes) ++ bytes) → (tells ≡ true → IsFront (now own).written (((then own).written ++ old.bytes) ++ bytes))
    → SameCounts then now → Moves tells own had has then now → PutsAt tells own then now had has old new (Ok tt) bytes
put_ok tells own then now had has old new bytes port ok front same moves = record { port = port; ok = ok; front = front; counts = same; never_long = λ p e. cc; moves = moves }

counts_fault : (own : Port) (then now : Port → Shown) (e : WriteFault) → (e ≡ write.File → Rose (then own) (now own)) → (e ≡ write.OutOfMemory → SameCounts then now) → ((other : Port) → other ≢ own → now other ≡ then other)
    → Counts {T = Unit {0}} (IsPort own) then now (Err (halt_of_fault e own))
counts_fault own then now write.File rose same others = (refl, rose refl, λ other differs. ap (λ (s : Shown). s.faults) (others other differs))
counts_fault own then now write.OutOfMemory rose same others = same refl

never_fault : (own : Port) (e : WriteFault) → NeverLong {T = Unit {0}} (Err (halt_of_fault e own))
never_fault own write.File = λ p e. cc
never_fault own write.OutOfMemory = λ p e. cc

pub put_fault : (tells : Bool) (own : Port) (then now : Port → Shown) (had has : Files) (old new : Waiting) (bytes : List ℕ) (e : WriteFault) (halt : Halt) → halt ≡ halt_of_fault e own → new.port ≡ own
    → (tells ≡ true → IsFront (now own).written (((then own).written ++ old.bytes) ++ bytes)) → (e ≡ write.File → Rose (then own) (now own)) → (e ≡ write.OutOfMemory → SameCounts then now)
    → Moves tells own had has then now → PutsAt tells own then now had has old new (Err halt) bytes
put_fault tells own then now had has old new bytes e halt is port front rose same moves = record {
  port = port;
  ok = λ told. tt;
  front = front;
  counts = subst (λ (h : Halt). Counts {T = Unit {0}} (IsPort own) then now (Err h)) (sym is) (counts_fault own then now e rose same moves.elsewhere);
  never_long = subst (λ (h : Halt). NeverLong {T = Unit {0}} (Err h)) (sym is) (never_fault own e);
  moves = moves;
}

-- nothing was to be put
pub put_nothing : (tells : Bool) (own : Port) (at : Port → Shown) (held : Files) (old : Waiting) → old.port ≡ own → (at own).bound ≡ true → PutsAt tells own at at held held old old (Ok tt) []
put_nothing tells own at held old port bound = record {
  port = port;
  ok = λ told. sym (append-nil ((at own).written ++ old.bytes));
  front = λ told. (old.bytes, sym (append-nil ((at own).written ++ old.bytes)));
  counts = λ p. refl;
  never_long = λ p e. cc;
  moves = record { later = omega arith; elsewhere = λ p other. refl; files = refl; still_bound = bound; same_binds = refl; same_name = λ told. refl };
}

-- ---- ports

pub lines_no_egress : ports.Lines ≢ ports.Egress
lines_no_egress e = cc

pub replies_no_egress : ports.Replies ≢ ports.Egress
replies_no_egress e = cc

pub replies_no_lines : ports.Replies ≢ ports.Lines
replies_no_lines e = cc

pub egress_no_lines : ports.Egress ≢ ports.Lines
egress_no_lines e = cc

pub egress_no_replies : ports.Egress ≢ ports.Replies
egress_no_replies e = cc

pub lines_no_replies : ports.Lines ≢ ports.Replies
lines_no_replies e = cc

pub is_egress : (port : Port) → port ≡ ports.Egress → IsOutput port
is_egress port is = inl is

pub is_lines : (port : Port) → port ≡ ports.Lines → IsOutput port
is_lines port is = inr (inl is)

pub is_replies : (port : Port) → port ≡ ports.Replies → IsOutput port
is_replies port is = inr (inr is)

-- ---- what was written to one of them

pub writes_one : (tells : Bool) (own : Port) (had has : Files) (then now : Port → Shown) → IsOutput own → Moves tells own had has then now → WritesOutputs IsOutput tells had has then now
writes_one tells own had has then now output moves = record {
  none_bound = none_bound tells own had has then now moves;
  files = moves.files;
  others = λ port outside. moves.elsewhere port (λ is. outside (subst IsOutput (sym is) output));
}

pub writes_then : (tells : Bool) (a b c : Files) (then mid now : Port → Shown) → WritesOutputs IsOutput tells a b then mid → WritesOutputs IsOutput tells b c mid now → WritesOutputs IsOutput tells a c then now
writes_then tells a b c then mid now first more = record {
  none_bound = record {
    binds = λ p. more.none_bound.binds p ∙ first.none_bound.binds p;
    names = λ told p. more.none_bound.names told p ∙ first.none_bound.names told p;
  };
  files = more.files ∙ first.files;
  others = λ port outside. more.others port outside ∙ first.others port outside;
}

-- a front of what was and waits is one with more behind
front_waits : (written waits text more : List ℕ) → written ++ waits ≡ text → IsFront written (text ++ more)
front_waits written waits text more is = (waits ++ more, sym (append_assoc written waits more) ∙ ap (λ l. l ++ more) is)

front_still : (written waits text : List ℕ) → written ++ waits ≡ text → IsFront written text
front_still written waits text is = (waits, is)

-- what was there is a front of it where nothing more was said
pub fronts_still : (at : Port → Shown) (outs : RunOutputs) (texts : Texts) → OutsPut at outs texts → OutsFronts at texts
fronts_still at outs texts put = record {
  egress = front_still (at ports.Egress).written outs.egress.bytes texts.egress put.egress;
  lines = front_still (at ports.Lines).written outs.lines.bytes texts.lines put.lines;
  replies = front_still (at ports.Replies).written outs.replies.bytes texts.replies put.replies;
}

front_puts : (written old : List ℕ) (waits text more : List ℕ) → old ++ waits ≡ text → IsFront written ((old ++ waits) ++ more) → IsFront written (text ++ more)
front_puts written old waits text more is front = front_of_same written ((old ++ waits) ++ more) (text ++ more) (ap (λ l. l ++ more) is) front

same_written : (own : Port) (then now : Port → Shown) (waits text : List ℕ) → now own ≡ then own → (then own).written ++ waits ≡ text → (now own).written ++ waits ≡ text
same_written own then now waits text same is = ap (λ (s : Shown). s.written ++ waits) same ∙ is

-- ---- a round's three puts

-- the egress was not put whole
pub stops_at_egress : (tells : Bool) (then now : Port → Shown) (had has : Files) (old : RunOutputs) (egress : Waiting) (halt : Halt) (more : Texts)
    → OutsOpen then old → PutsAt tells ports.Egress then now had has old.egress egress (Err halt) more.egress → PutsTexts tells then now had has old (record old { egress = egress }) (Err halt) more
stops_at_egress tells then now had has old egress halt more ready put =
    let lines = put.moves.elsewhere ports.Lines lines_no_egress in
    let replies = put.moves.elsewhere ports.Replies replies_no_egress in
    record {
      ready = record {
        egress_port = put.port;
        lines_port = ready.lines_port;
        replies_port = ready.replies_port;
        egress_bound = put.moves.still_bound;
        lines_bound = ap (λ (s : Shown). s.bound) lines ∙ ready.lines_bound;
        replies_bound = ap (λ (s : Shown). s.bound) replies ∙ ready.replies_bound;
      };
      ok = λ told texts was. tt;
      front = λ told texts was. record {
        egress = front_puts (now ports.Egress).written (then ports.Egress).written old.egress.bytes texts.egress more.egress was.egress (put.front told);
        lines = front_waits (now ports.Lines).written old.lines.bytes texts.lines more.lines (same_written ports.Lines then now old.lines.bytes texts.lines lines was.lines);
        replies = front_waits (now ports.Replies).written old.replies.bytes texts.replies more.replies (same_written ports.Replies then now old.replies.bytes texts.replies replies was.replies);
      };
      counts = counts_halt (Unit {0}) (Unit {0}) (IsPort ports.Egress) IsOutput then now halt is_egress put.counts;
      never_long = put.never_long;
      writes = writes_one tells ports.Egress had has then now (inl refl) put.moves;
    }

-- the egress was, and the lines were not
pub stops_at_lines : (tells : Bool) (then mid now : Port → Shown) (had has at_last : Files) (old : RunOutputs) (egress lines : Waiting) (text : List ℕ) (halt : Halt) (more : Texts)
    → OutsOpen then old → PutsAt tells ports.Egress then mid had has old.egress egress (Ok tt) more.egress → PutsAt tells ports.Lines mid now has at_last old.lines lines (Err halt) more.lines
    → PutsTexts tells then now had at_last old (record old { egress = egress; lines = lines; text = text }) (Err halt) more
stops_at_lines tells then mid now had has at_last old egress lines text halt more ready first put =
    let own_lines = first.moves.elsewhere ports.Lines lines_no_egress in
    let same_egress = put.moves.elsewhere ports.Egress egress_no_lines in
    let replies = put.moves.elsewhere ports.Replies replies_no_lines ∙ first.moves.elsewhere ports.Replies replies_no_egress in
    record {
      ready = record {
        egress_port = first.port;
        lines_port = put.port;
        replies_port = ready.replies_port;
        egress_bound = ap (λ (s : Shown). s.bound) same_egress ∙ first.moves.still_bound;
        lines_bound = put.moves.still_bound;
        replies_bound = ap (λ (s : Shown). s.bound) replies ∙ ready.replies_bound;
      };
      ok = λ told texts was. tt;
      front = λ told texts was. record {
        egress = front_still (now ports.Egress).written egress.bytes (texts.egress ++ more.egress)
            (same_written ports.Egress mid now egress.bytes (texts.egress ++ more.egress) same_egress (first.ok told ∙ ap (λ l. l ++ more.egress) was.egress));
        lines = front_puts (now ports.Lines).written (mid ports.Lines).written old.lines.bytes texts.lines more.lines (same_written ports.Lines then mid old.lines.bytes texts.lines own_lines was.lines) (put.front told);
        replies = front_waits (now ports.Replies).written old.replies.bytes texts.replies more.replies (same_written ports.Replies then now old.replies.bytes texts.replies replies was.replies);
      };
      counts = counts_after {T = Unit {0}} IsOutput then mid now (Err halt) first.counts (counts_halt (Unit {0}) (Unit {0}) (IsPort ports.Lines) IsOutput mid now halt is_lines put.counts);
      never_long = put.never_long;
      writes = writes_then tells had has at_last then mid now (writes_one tells ports.Egress had has then mid (inl refl) first.moves) (writes_one tells ports.Lines has at_last mid now (inr (inl refl)) put.moves);
    }

counts_own : (own : Port) (then now : Port → Shown) (r : Result (Unit {0}) Halt) → IsOutput own → Counts (IsPort own) then now r → Counts IsOutput then now r
counts_own own then now (Ok x) output counts = counts
counts_own own then now (Err halt) output counts = counts_halt (Unit {0}) (Unit {0}) (IsPort own) IsOutput then now halt (λ port is. subst IsOutput (sym is) output) counts

on_put : (r : Result (Unit {0}) Halt) (P Q : Type 0) → (P → Q) → OnOk r P → OnOk r Q
on_put (Ok x) P Q f p = f p
on_put (Err e) P Q f p = tt

-- both were, and then the replies, or a front of them
pub puts_all : (tells : Bool) (then mid more_mid now : Port → Shown) (had has had_more at_last : Files) (old : RunOutputs) (egress lines replies : Waiting) (text : List ℕ) (r : Result (Unit {0}) Halt) (more : Texts)
    → OutsOpen then old → PutsAt tells ports.Egress then mid had has old.egress egress (Ok tt) more.egress → PutsAt tells ports.Lines mid more_mid has had_more old.lines lines (Ok tt) more.lines
    → PutsAt tells ports.Replies more_mid now had_more at_last old.replies replies r more.replies
    → PutsTexts tells then now had at_last old (record { egress = egress; lines = lines; replies = replies; text = text }) r more
puts_all tells then mid more_mid now had has had_more at_last old egress lines replies text r more ready first second put =
    let own_lines = first.moves.elsewhere ports.Lines lines_no_egress in
    let own_replies = second.moves.elsewhere ports.Replies replies_no_lines ∙ first.moves.elsewhere ports.Replies replies_no_egress in
    let same_egress = put.moves.elsewhere ports.Egress egress_no_replies ∙ second.moves.elsewhere ports.Egress egress_no_lines in
    let same_lines = put.moves.elsewhere ports.Lines lines_no_replies in
    record {
      ready = record {
        egress_port = first.port;
        lines_port = second.port;
        replies_port = put.port;
        egress_bound = ap (λ (s : Shown). s.bound) same_egress ∙ first.moves.still_bound;
        lines_bound = ap (λ (s : Shown). s.bound) same_lines ∙ second.moves.still_bound;
        replies_bound = put.moves.still_bound;
      };
      ok = λ told texts was. on_put r _ _
          (λ done. record {
            egress = same_written ports.Egress mid now egress.bytes (texts.egress ++ more.egress) same_egress (first.ok told ∙ ap (λ l. l ++ more.egress) was.egress);
            lines = same_written ports.Lines more_mid now lines.bytes (texts.lines ++ more.lines) same_lines
                (second.ok told ∙ ap (λ l. l ++ more.lines) (same_written ports.Lines then mid old.lines.bytes texts.lines own_lines was.lines));
            replies = done ∙ ap (λ l. l ++ more.replies) (same_written ports.Replies then more_mid old.replies.bytes texts.replies own_replies was.replies);
          })
          (put.ok told);
      front = λ told texts was. record {
        egress = front_still (now ports.Egress).written egress.bytes (texts.egress ++ more.egress)
            (same_written ports.Egress mid now egress.bytes (texts.egress ++ more.egress) same_egress (first.ok told ∙ ap (λ l. l ++ more.egress) was.egress));
        lines = front_still (now ports.Lines).written lines.bytes (texts.lines ++ more.lines)
            (same_written ports.Lines more_mid now lines.bytes (texts.lines ++ more.lines) same_lines
            (second.ok told ∙ ap (λ l. l ++ more.lines) (same_written ports.Lines then mid old.lines.bytes texts.lines own_lines was.lines)));
        replies = front_puts (now ports.Replies).written (more_mid ports.Replies).written old.replies.bytes texts.replies more.replies
            (same_written ports.Replies then more_mid old.replies.bytes texts.replies own_replies was.replies) (put.front told);
      };
      counts = counts_after IsOutput then mid now r first.counts (counts_after IsOutput mid more_mid now r second.counts (counts_own ports.Replies more_mid now r (inr (inr refl)) put.counts));
      never_long = put.never_long;
      writes = writes_then tells had has at_last then mid now (writes_one tells ports.Egress had has then mid (inl refl) first.moves)
          (writes_then tells has had_more at_last mid more_mid now (writes_one tells ports.Lines has had_more mid more_mid (inr (inl refl)) second.moves)
          (writes_one tells ports.Replies had_more at_last more_mid now (inr (inr refl)) put.moves));
    }

-- only the header was
pub puts_head : (tells : Bool) (then now : Port → Shown) (had has : Files) (old : RunOutputs) (egress : Waiting) (r : Result (Unit {0}) Halt) (head : List ℕ)
    → OutsOpen then old → PutsAt tells ports.Egress then now had has old.egress egress r head
    → PutsTexts tells then now had has old (record old { egress = egress }) r (record { egress = head; lines = []; replies = [] })
puts_head tells then now had has old egress r head ready put =
    let lines = put.moves.elsewhere ports.Lines lines_no_egress in
    let replies = put.moves.elsewhere ports.Replies replies_no_egress in
    record {
      ready = record {
        egress_port = put.port;
        lines_port = ready.lines_port;
        replies_port = ready.replies_port;
        egress_bound = put.moves.still_bound;
        lines_bound = ap (λ (s : Shown). s.bound) lines ∙ ready.lines_bound;
        replies_bound = ap (λ (s : Shown). s.bound) replies ∙ ready.replies_bound;
      };
      ok = λ told texts was. on_put r _ _
          (λ done. record {
            egress = done ∙ ap (λ l. l ++ head) was.egress;
            lines = same_written ports.Lines then now old.lines.bytes texts.lines lines was.lines ∙ sym (append-nil texts.lines);
            replies = same_written ports.Replies then now old.replies.bytes texts.replies replies was.replies ∙ sym (append-nil texts.replies);
          })
          (put.ok told);
      front = λ told texts was. record {
        egress = front_puts (now ports.Egress).written (then ports.Egress).written old.egress.bytes texts.egress head was.egress (put.front told);
        lines = front_waits (now ports.Lines).written old.lines.bytes texts.lines [] (same_written ports.Lines then now old.lines.bytes texts.lines lines was.lines);
        replies = front_waits (now ports.Replies).written old.replies.bytes texts.replies [] (same_written ports.Replies then now old.replies.bytes texts.replies replies was.replies);
      };
      counts = counts_own ports.Egress then now r (inl refl) put.counts;
      never_long = put.never_long;
      writes = writes_one tells ports.Egress had has then now (inl refl) put.moves;
    }

-- ---- the three writes of what waits

all_there : (written waits text : List ℕ) → waits ≡ [] → written ++ waits ≡ text ++ [] → written ≡ text
all_there written waits text none is = sym (append-nil written) ∙ ap (λ l. written ++ l) (sym none) ∙ is ∙ append-nil text

front_there : (written text : List ℕ) → IsFront written (text ++ []) → IsFront written text
front_there written text front = front_of_same written (text ++ []) text (append-nil text) front

pub finishes : (tells : Bool) (then now : Port → Shown) (had has : Files) (old new : RunOutputs) (r : Result (Unit {0}) Halt) → OnOk r (NothingWaits new) → PutsTexts tells then now had has old new r nothing_more → OutsFinish tells then now had has old r
finishes tells then now had has old new (Ok done) none puts = record {
  ok = λ told texts was. let all = puts.ok told texts was in record {
    egress = all_there (now ports.Egress).written new.egress.bytes texts.egress none.egress all.egress;
    lines = all_there (now ports.Lines).written new.lines.bytes texts.lines none.lines all.lines;
    replies = all_there (now ports.Replies).written new.replies.bytes texts.replies none.replies all.replies;
  };
  front = λ told texts was. let all = puts.front told texts was in record {
    egress = front_there (now ports.Egress).written texts.egress all.egress;
    lines = front_there (now ports.Lines).written texts.lines all.lines;
    replies = front_there (now ports.Replies).written texts.replies all.replies;
  };
  counts = puts.counts;
  never_long = puts.never_long;
  writes = puts.writes;
}
finishes tells then now had has old new (Err halt) none puts = record {
  ok = λ told texts was. tt;
  front = λ told texts was. let all = puts.front told texts was in record {
    egress = front_there (now ports.Egress).written texts.egress all.egress;
    lines = front_there (now ports.Lines).written texts.lines all.lines;
    replies = front_there (now ports.Replies).written texts.replies all.replies;
  };
  counts = puts.counts;
  never_long = puts.never_long;
  writes = puts.writes;
}

-- what was put is written, or a front of it
pub puts_written : (tells : Bool) (then mid now : Port → Shown) (had has at_last : Files) (old middle new : RunOutputs) (r : Result (Unit {0}) Halt) (more : Texts)
    → PutsTexts tells then mid had has old middle (Ok tt) more → PutsTexts tells mid now has at_last middle new r nothing_more → PutsTexts tells then now had at_last old new r more
puts_written tells then mid now had has at_last old middle new r more first second = record {
  ready = second.ready;
  ok = λ told texts was. on_put r (OutsPut now new (texts_behind (texts_behind texts more) nothing_more)) (OutsPut now new (texts_behind texts more))
      (λ done. record {
        egress = done.egress ∙ append-nil (texts.egress ++ more.egress);
        lines = done.lines ∙ append-nil (texts.lines ++ more.lines);
        replies = done.replies ∙ append-nil (texts.replies ++ more.replies);
      })
      (second.ok told (texts_behind texts more) (first.ok told texts was));
  front = λ told texts was. let all = second.front told (texts_behind texts more) (first.ok told texts was) in record {
    egress = front_there (now ports.Egress).written (texts.egress ++ more.egress) all.egress;
    lines = front_there (now ports.Lines).written (texts.lines ++ more.lines) all.lines;
    replies = front_there (now ports.Replies).written (texts.replies ++ more.replies) all.replies;
  };
  counts = counts_after IsOutput then mid now r first.counts second.counts;
  never_long = second.never_long;
  writes = writes_then tells had has at_last then mid now first.writes second.writes;
}

-- ---- one write of what waits

finished_all : (written waits text : List ℕ) → written ≡ text → waits ≡ [] → written ++ waits ≡ text ++ []
finished_all written waits text is none = ap (λ l. written ++ l) none ∙ append-nil written ∙ is ∙ sym (append-nil text)

finished_front : (written text : List ℕ) → IsFront written text → IsFront written (text ++ [])
finished_front written text front = front_of_same written text (text ++ []) (sym (append-nil text)) front

pub put_finished : (tells : Bool) (own : Port) (then now : Port → Shown) (had has : Files) (old new : Waiting) → new.port ≡ own → new.bytes ≡ []
    → (tells ≡ true → (now own).written ≡ (then own).written ++ old.bytes) → (tells ≡ true → IsFront (now own).written ((then own).written ++ old.bytes))
    → SameCounts then now → Moves tells own had has then now → PutsAt tells own then now had has old new (Ok tt) []
put_finished tells own then now had has old new port none ok front same moves =
    put_ok tells own then now had has old new [] port (λ told. finished_all (now own).written new.bytes ((then own).written ++ old.bytes) (ok told) none)
    (λ told. finished_front (now own).written ((then own).written ++ old.bytes) (front told)) same moves

pub put_unfinished : (tells : Bool) (own : Port) (then now : Port → Shown) (had has : Files) (old new : Waiting) → new.port ≡ own
    → (tells ≡ true → IsFront (now own).written ((then own).written ++ old.bytes)) → Rose (then own) (now own) → Moves tells own had has then now → PutsAt tells own then now had has old new (Err (halts.File own)) []
put_unfinished tells own then now had has old new port front rose moves =
    put_fault tells own then now had has old new [] write.File (halts.File own) refl port (λ told. finished_front (now own).written ((then own).written ++ old.bytes) (front told)) (λ e. rose) (λ e. cc) moves
