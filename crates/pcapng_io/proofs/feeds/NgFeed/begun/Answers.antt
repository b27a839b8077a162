-- The section has begun, or what stands at the front begins one.
use Rattle.pcapng_io.specs.Refusals.{told}
use Rattle.pcapng_io.proofs.BeginLemmas.{begun_begins, whole_begins, part_begins, refused_begins}
use Rattle.pcapng_io.proofs.feeds.NgFeed.begun.Goals as goal

pub returns-then-self : goal.returns-then-self
returns-then-self c = record { history = λ taken given s. begun_begins c.args.self.now taken given (rw (← c.self.view_is) c.if-self.true) s }

pub returns-in-Whole : goal.returns-in-Whole
returns-in-Whole c = record {
  history = λ taken given s.
      whole_begins c.args.self.now taken given c.in-Whole.field-0 c.in-Whole.field-1 (rw (← c.self.view_is) c.if-self.false)
      (rw (← c.self.view_is) (rw c.rest.ensures at c.in-Whole.ensures.gives)) s;
}

pub returns-in-Wait : goal.returns-in-Wait
returns-in-Wait c = record {
  history = λ taken given s begins.
      part_begins c.args.self.now taken given (rw (← c.self.view_is) c.if-self.false)
      (rw (← c.self.view_is) (rw c.rest.ensures at c.in-Wait.ensures.gives.1)) s begins;
}

pub returns-in-Refused : goal.returns-in-Refused
returns-in-Refused c = record {
  history = λ taken given s begins.
      refused_begins c.args.self.now taken given (told c.in-Refused.field-0 c.in-Refused.field-1) (rw (← c.self.view_is) c.if-self.false)
      (rw (← c.self.view_is) (rw c.rest.ensures at c.in-Refused.ensures.gives.0)) s begins;
}
