use Rattle.std.proofs.Common.{ℕ, List, arith, rules, subst, Err, Ok}
use Rattle.walrus.specs.Message.{Tells, line, stream_of}
use Rattle.walrus.proofs.command.command.Goals as goal

pub returns-in-Ok : goal.returns-in-Ok
returns-in-Ok g c = record {
  unknown = λ unknown. search rules;
  known = λ known. record {
    answer = Ok c.in-Ok.field-0;
    ran = c.in-Ok.ensures.headline;
    reads = c.in-Ok.ensures.reads;
    writes = c.in-Ok.ensures.writes;
    told = search rules;
  };
  flushed = λ is. c.in-Ok.ensures.flushed;
}

-- a refusal, and its text
pub returns-in-Err : goal.returns-in-Err
returns-in-Err g c = record {
  unknown = λ unknown. search rules;
  known = λ known. record {
    answer = Err c.in-Err.error;
    ran = c.in-Err.ensures.headline;
    reads = c.in-Err.ensures.reads;
    writes = c.in-Err.ensures.writes;
    told = (
      c.refuse.ensures.status,
      subst (λ (text : List ℕ). Tells (stream_of g.E.Sink.held g.E.Sink.write_failures c.args.errors.now c.refuse.new.errors) (line text)) c.text_of.ensures c.refuse.ensures.told,
    );
  };
  flushed = λ is. absurd (omega (arith, is, c.refuse.ensures.status));
}
