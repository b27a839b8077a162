-- A round that was run, and what was put of it at the three outputs; the header before the first round, and what waits at the end.
use Rattle.sfc_desk.specs.declared.ports.Port.TheVariants as ports
use Rattle.commands.specs.Fronts.{IsFront}
use Rattle.std.proofs.Common.{◌≡◌, inr, ℕ, Bool, List, Option, Some, Result, Ok, Err, OnOk, IfSome, subst, inl, sym, refl, ◌++◌, length, true, [], ◌⊎◌}
use Rattle.sfc_desk.specs.declared.ports.Port.{Port}
use Rattle.sfc_desk.specs.Desks.{Shown, Files}
use Rattle.pcap_io.specs.declared.forms.Form.{Form}
use Rattle.control_files.specs.declared.segments.Segment.{Segment}
use Rattle.session_machine.specs.Groups.{Entry}
use Rattle.sfc_routes.specs.Entries.{Entries}
use Rattle.round_inputs.specs.declared.halts.Halt.{Halt}
use Rattle.worker_run.specs.declared.runners.Runner.{Runner}
use Rattle.worker_run.specs.Batches.{Carried}
use Rattle.record_text.specs.declared.records.Record.{Record}
use Rattle.rounds.specs.Says.{Says}
use Rattle.pcap_io.specs.declared.frames.Captured.{Captured}
use Rattle.sfc_config.specs.Parts.{Parts}
use Rattle.commands.specs.Outputs.{Outputs, none_put}
use Rattle.worker_run.specs.Batches.{frames_in, records_in}
use Rattle.file_runs.specs.declared.run_outputs.RunOutputs.{RunOutputs}
use Rattle.file_runs.specs.Means.{AreBound, AreOpen, Finishes, Put, PutAll, PutFronts, PutsHead, RoundPuts, Saying, Wrote}
use Rattle.file_runs.specs.RunPuts.{Forwarded, IsOutput, OutsAll, OutsBound, OutsFinish, OutsFronts, OutsOpen, OutsPut, PutsRound, PutsTexts, Texts, batch_texts, nothing_more, only_head, outputs_of, run_means, texts_behind, texts_of, waits_of}
use Rattle.file_runs.proofs.TextLemmas.{head_texts, texts_next}

-- ---- from the three outputs to what any run says

module _ (says : Says Record) (setup : Parts) where
  pub three_open : (at : Port → Shown) (outs : RunOutputs) → OutsOpen at outs → AreOpen (run_means says setup) at
  three_open at outs ready port (inl is) = subst (λ p. (at p).bound ≡ true) (sym is) ready.egress_bound
  three_open at outs ready port (inr (inl is)) = subst (λ p. (at p).bound ≡ true) (sym is) ready.lines_bound
  three_open at outs ready port (inr (inr is)) = subst (λ p. (at p).bound ≡ true) (sym is) ready.replies_bound

  pub three_put : (at : Port → Shown) (outs : RunOutputs) (texts : Texts) → OutsPut at outs texts → Put (run_means says setup) at (waits_of outs) (outputs_of texts)
  three_put at outs texts put port (inl is) = subst (λ p. (at p).written ++ waits_of outs p ≡ outputs_of texts p) (sym is) put.egress
  three_put at outs texts put port (inr (inl is)) = subst (λ p. (at p).written ++ waits_of outs p ≡ outputs_of texts p) (sym is) put.lines
  three_put at outs texts put port (inr (inr is)) = subst (λ p. (at p).written ++ waits_of outs p ≡ outputs_of texts p) (sym is) put.replies

  pub put_three : (at : Port → Shown) (outs : RunOutputs) (texts : Outputs) → Put (run_means says setup) at (waits_of outs) texts → OutsPut at outs (record { egress = texts ports.Egress; lines = texts ports.Lines; replies = texts ports.Replies })
  put_three at outs texts put = record { egress = put ports.Egress (inl refl); lines = put ports.Lines (inr (inl refl)); replies = put ports.Replies (inr (inr refl)) }

  pub three_fronts : (at : Port → Shown) (texts : Texts) → OutsFronts at texts → PutFronts (run_means says setup) at (outputs_of texts)
  three_fronts at texts put port (inl is) = subst (λ p. IsFront (at p).written (outputs_of texts p)) (sym is) put.egress
  three_fronts at texts put port (inr (inl is)) = subst (λ p. IsFront (at p).written (outputs_of texts p)) (sym is) put.lines
  three_fronts at texts put port (inr (inr is)) = subst (λ p. IsFront (at p).written (outputs_of texts p)) (sym is) put.replies

  three_all : (at : Port → Shown) (texts : Texts) → OutsAll at texts → PutAll (run_means says setup) at (outputs_of texts)
  three_all at texts put port (inl is) = subst (λ p. (at p).written ≡ outputs_of texts p) (sym is) put.egress
  three_all at texts put port (inr (inl is)) = subst (λ p. (at p).written ≡ outputs_of texts p) (sym is) put.lines
  three_all at texts put port (inr (inr is)) = subst (λ p. (at p).written ≡ outputs_of texts p) (sym is) put.replies

  pub three_bound : (tells : Bool) (at : Port → Shown) → OutsBound tells at → AreBound (run_means says setup) tells at
  three_bound tells at x = record { capture = x.capture; control = x.control; outputs = outs; empty = empty }
    where
      outs : AreOpen (run_means says setup) at
      outs port (inl is) = subst (λ p. (at p).bound ≡ true) (sym is) x.egress
      outs port (inr (inl is)) = subst (λ p. (at p).bound ≡ true) (sym is) x.lines
      outs port (inr (inr is)) = subst (λ p. (at p).bound ≡ true) (sym is) x.replies

      empty : tells ≡ true → PutAll (run_means says setup) at none_put
      empty told port (inl is) = subst (λ p. (at p).written ≡ none_put p) (sym is) (x.egress_empty told)
      empty told port (inr (inl is)) = subst (λ p. (at p).written ≡ none_put p) (sym is) (x.lines_empty told)
      empty told port (inr (inr is)) = subst (λ p. (at p).written ≡ none_put p) (sym is) (x.replies_empty told)

  pub bound_three : (tells : Bool) (at : Port → Shown) → AreBound (run_means says setup) tells at → OutsBound tells at
  bound_three tells at x = record {
    capture = x.capture;
    control = x.control;
    egress = x.outputs ports.Egress (inl refl);
    lines = x.outputs ports.Lines (inr (inl refl));
    replies = x.outputs ports.Replies (inr (inr refl));
    egress_empty = λ told. x.empty told ports.Egress (inl refl);
    lines_empty = λ told. x.empty told ports.Lines (inr (inl refl));
    replies_empty = λ told. x.empty told ports.Replies (inr (inr refl));
  }

  pub all_open : (now : Port → Shown) (outs : RunOutputs) (r : Result (Unit {0}) Halt) → OnOk r (OutsOpen now outs) → OnOk r (AreOpen (run_means says setup) now)
  all_open now outs (Ok done) ready = three_open now outs ready
  all_open now outs (Err halt) ready = tt

  -- the outputs are those of the three ports, which are bound still
  pub still_open : (then now : Port → Shown) (outs : RunOutputs) → OutsOpen then outs → AreOpen (run_means says setup) now → OutsOpen now outs
  still_open then now outs was ready = record {
    egress_port = was.egress_port;
    lines_port = was.lines_port;
    replies_port = was.replies_port;
    egress_bound = ready ports.Egress (inl refl);
    lines_bound = ready ports.Lines (inr (inl refl));
    replies_bound = ready ports.Replies (inr (inr refl));
  }

  wrote_by : (tells : Bool) (then now : Port → Shown) (had has : Files) (old new : RunOutputs) (r : Result (Unit {0}) Halt) (more : Texts) → PutsTexts tells then now had has old new r more → Wrote (run_means says setup) tells had has then now r
  wrote_by tells then now had has old new r more puts = record { counts = puts.counts; never_long = puts.never_long; writes = puts.writes }

  -- the header was put at fresh outputs
  pub head_put : (tells : Bool) (then now : Port → Shown) (had has : Files) (old new : RunOutputs) (form : Option Form) (r : Result (Unit {0}) Halt) → (tells ≡ true → OutsPut then old nothing_more) → PutsTexts tells then now had has old new r (only_head form)
      → PutsHead (run_means says setup) tells had has then now (waits_of new) form r
  head_put tells then now had has old new form (Ok done) fresh puts = record {
    open_still = three_open now new puts.ready;
    ok = λ told. three_put now new (texts_of setup form [] [] [] []) (subst (OutsPut now new) (head_texts setup form) (puts.ok told nothing_more (fresh told)));
    front = λ told. three_fronts now (texts_of setup form [] [] [] []) (subst (OutsFronts now) (head_texts setup form) (puts.front told nothing_more (fresh told)));
    wrote = wrote_by tells then now had has old new (Ok done) (only_head form) puts;
  }
  head_put tells then now had has old new form (Err halt) fresh puts = record {
    open_still = three_open now new puts.ready;
    ok = λ told. tt;
    front = λ told. three_fronts now (texts_of setup form [] [] [] []) (subst (OutsFronts now) (head_texts setup form) (puts.front told nothing_more (fresh told)));
    wrote = wrote_by tells then now had has old new (Err halt) (only_head form) puts;
  }

  -- what waited was written
  pub three_finished : (tells : Bool) (then now : Port → Shown) (had has : Files) (outs : RunOutputs) (r : Result (Unit {0}) Halt) → OutsFinish tells then now had has outs r → Finishes (run_means says setup) tells had has then now (waits_of outs) r
  three_finished tells then now had has outs r x = record {
    ok = λ told texts put. finished r texts (x.ok told (record { egress = texts ports.Egress; lines = texts ports.Lines; replies = texts ports.Replies }) (put_three then outs texts put));
    front = λ told texts put port output. fronts texts port output (x.front told (record { egress = texts ports.Egress; lines = texts ports.Lines; replies = texts ports.Replies }) (put_three then outs texts put));
    wrote = record { counts = x.counts; never_long = x.never_long; writes = x.writes };
  }
    where
      all : (texts : Outputs) → OutsAll now (record { egress = texts ports.Egress; lines = texts ports.Lines; replies = texts ports.Replies }) → PutAll (run_means says setup) now texts
      all texts put port (inl is) = subst (λ p. (now p).written ≡ texts p) (sym is) put.egress
      all texts put port (inr (inl is)) = subst (λ p. (now p).written ≡ texts p) (sym is) put.lines
      all texts put port (inr (inr is)) = subst (λ p. (now p).written ≡ texts p) (sym is) put.replies

      finished : (q : Result (Unit {0}) Halt) (texts : Outputs) → OnOk q (OutsAll now (record { egress = texts ports.Egress; lines = texts ports.Lines; replies = texts ports.Replies })) → OnOk q (PutAll (run_means says setup) now texts)
      finished (Ok done) texts put = all texts put
      finished (Err halt) texts put = tt

      fronts : (texts : Outputs) (port : Port) → IsOutput port → OutsFronts now (record { egress = texts ports.Egress; lines = texts ports.Lines; replies = texts ports.Replies }) → IsFront (now port).written (texts port)
      fronts texts port (inl is) put = subst (λ p. IsFront (now p).written (texts p)) (sym is) put.egress
      fronts texts port (inr (inl is)) put = subst (λ p. IsFront (now p).written (texts p)) (sym is) put.lines
      fronts texts port (inr (inr is)) put = subst (λ p. IsFront (now p).written (texts p)) (sym is) put.replies

-- nothing was put at new outputs
pub record Fresh (outs : RunOutputs) : Type 0 where
  pub egress : (outs.egress.port ≡ ports.Egress) × (outs.egress.bytes ≡ [])
  pub lines : (outs.lines.port ≡ ports.Lines) × (outs.lines.bytes ≡ [])
  pub replies : (outs.replies.port ≡ ports.Replies) × (outs.replies.bytes ≡ [])

pub fresh_open : (tells : Bool) (at : Port → Shown) (outs : RunOutputs) → OutsBound tells at → Fresh outs → OutsOpen at outs
fresh_open tells at outs bound fresh = record {
  egress_port = fresh.egress.0;
  lines_port = fresh.lines.0;
  replies_port = fresh.replies.0;
  egress_bound = bound.egress;
  lines_bound = bound.lines;
  replies_bound = bound.replies;
}

both_nothing : (written waits : List ℕ) → written ≡ [] → waits ≡ [] → written ++ waits ≡ []
both_nothing written waits a b = (λ k. a k ++ b k)

pub fresh_put : (tells : Bool) (at : Port → Shown) (outs : RunOutputs) → OutsBound tells at → Fresh outs → tells ≡ true → OutsPut at outs nothing_more
fresh_put tells at outs bound fresh told = record {
  egress = both_nothing (at ports.Egress).written outs.egress.bytes (bound.egress_empty told) fresh.egress.1;
  lines = both_nothing (at ports.Lines).written outs.lines.bytes (bound.lines_empty told) fresh.lines.1;
  replies = both_nothing (at ports.Replies).written outs.replies.bytes (bound.replies_empty told) fresh.replies.1;
}

-- ---- a round

round_texts : (setup : Parts) (form : Option Form) (passed : List Captured) (history : List Segment) (log : List Entry) (said : List Record) (says : Says Record) (runner : Runner) (segments : List Segment) (old new : List Carried) (place : ℕ) (replies : List ℕ)
    → length said ≡ length passed → place ≡ length passed → runner.setup ≡ setup → (x : Forwarded says runner history log segments old new replies)
    → texts_behind (texts_of setup form passed history log said) (batch_texts form runner.setup.roster place new replies) ≡ texts_of setup form (passed ++ frames_in old) (history ++ segments) (log ++ x.now) (said ++ records_in new)
round_texts setup form passed history log said says runner segments old new place replies each at is x =
    subst (λ (p : Parts). texts_behind (texts_of p form passed history log said) (batch_texts form runner.setup.roster place new replies) ≡ texts_of p form (passed ++ frames_in old) (history ++ segments) (log ++ x.now) (said ++ records_in new)) is
    (texts_next runner.setup form passed history segments log x.now said old new place replies each at x.out x.replies_are)

saying : (says : Says Record) (setup : Parts) (runner : Runner) (history : List Segment) (log : List Entry) (segments : List Segment) (old new : List Carried) (replies : List ℕ) → (x : Forwarded says runner history log segments old new replies)
    → Saying (run_means says setup) runner history log segments (frames_in old) x.now (records_in new)
saying says setup runner history log segments old new replies x = record { stands = x.stands; each = x.each; says_so = x.says_so }

-- a round that was put at the three outputs
pub round_put : (says : Says Record) (setup : Parts) (tells : Bool) (then now : Port → Shown) (old new : RunOutputs) (runner : Runner) (form : Option Form) (place : ℕ) (passed : List Captured) (history : List Segment) (log : List Entry) (said : List Record) (segments : List Segment) (before after : List Carried) (r : Result (Unit {0}) Halt)
    → length said ≡ length passed → place ≡ length passed → runner.setup ≡ setup → PutsRound says tells then now old new runner form place history log segments before after r
    → RoundPuts (run_means says setup) tells then now (waits_of old) (waits_of new) runner form passed history log said segments (frames_in before) r
round_put says setup tells then now old new runner form place passed history log said segments before after (Ok done) each at is puts =
    let x = puts.1 in (
      x.now,
      records_in after,
      saying says setup runner history log segments before after puts.0 x,
      λ told put. three_put says setup now new (texts_of setup form (passed ++ frames_in before) (history ++ segments) (log ++ x.now) (said ++ records_in after))
          (subst (OutsPut now new) (round_texts setup form passed history log said says runner segments before after place puts.0 each at is x)
          (puts.2 told (texts_of setup form passed history log said) (put_three says setup then old (outputs_of (texts_of setup form passed history log said)) put))),
    )
round_put says setup tells then now old new runner form place passed history log said segments before after (Err halt) each at is puts = λ told put.
    one (puts told (texts_of setup form passed history log said) (put_three says setup then old (outputs_of (texts_of setup form passed history log said)) put))
  where
    one : OutsFronts now (texts_of setup form passed history log said)
        ⊎ ((replies : List ℕ) × Forwarded says runner history log segments before after replies × OutsFronts now (texts_behind (texts_of setup form passed history log said) (batch_texts form runner.setup.roster place after replies)))
        → PutFronts (run_means says setup) now (outputs_of (texts_of setup form passed history log said))
        ⊎ ((more : List Entry) × (here : List Record) × Saying (run_means says setup) runner history log segments (frames_in before) more here
        × PutFronts (run_means says setup) now (outputs_of (texts_of setup form (passed ++ frames_in before) (history ++ segments) (log ++ more) (said ++ here))))
    one (inl fronts) = inl (three_fronts says setup now (texts_of setup form passed history log said) fronts)
    one (inr (replies, x, fronts)) =
        inr (
          x.now,
          records_in after,
          saying says setup runner history log segments before after replies x,
          three_fronts says setup now (texts_of setup form (passed ++ frames_in before) (history ++ segments) (log ++ x.now) (said ++ records_in after))
              (subst (OutsFronts now) (round_texts setup form passed history log said says runner segments before after place replies each at is x) fronts),
        )

puts_by : (says : Says Record) (tells : Bool) (then now : Port → Shown) (had has : Files) (old new : RunOutputs) (runner : Runner) (form : Option Form) (place : ℕ) (history : List Segment) (log : List Entry) (segments : List Segment) (before after : List Carried) (replies : List ℕ) (r : Result (Unit {0}) Halt)
    → Forwarded says runner history log segments before after replies → PutsTexts tells then now had has old new r (batch_texts form runner.setup.roster place after replies) → PutsRound says tells then now old new runner form place history log segments before after r
puts_by says tells then now had has old new runner form place history log segments before after replies (Ok done) forwarded puts = (replies, forwarded, puts.ok)
puts_by says tells then now had has old new runner form place history log segments before after replies (Err halt) forwarded puts = λ told texts was. inr (replies, forwarded, puts.front told texts was)

pub round_puts : (says : Says Record) (tells : Bool) (then now : Port → Shown) (had has : Files) (old new : RunOutputs) (runner : Runner) (roster : Entries) (form : Option Form) (place : ℕ) (history : List Segment) (log : List Entry) (segments : List Segment) (before after : List Carried) (replies given : List ℕ) (r : Result (Unit {0}) Halt)
    → roster ≡ runner.setup.roster → given ≡ replies → Forwarded says runner history log segments before after replies → PutsTexts tells then now had has old new r (batch_texts form roster place after given)
    → PutsRound says tells then now old new runner form place history log segments before after r
round_puts says tells then now had has old new runner roster form place history log segments before after replies given r same answered forwarded puts =
    puts_by says tells then now had has old new runner form place history log segments before after replies r forwarded
    (subst (λ (e : Entries). PutsTexts tells then now had has old new r (batch_texts form e place after replies)) same
    (subst (λ (l : List ℕ). PutsTexts tells then now had has old new r (batch_texts form roster place after l)) answered puts))

pub always : {A E : Type 0} (r : Result A E) (P : Type 0) → P → OnOk r P
always (Ok x) P p = p
always (Err e) P p = tt

pub some_so : {A : Type 0} (o : Option A) (x : A) (P : A → Type 0) → o ≡ Some x → IfSome o P → P x
some_so {A} o x P is so = subst (λ (y : Option A). IfSome y P) is so
