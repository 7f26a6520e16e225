use Rattle.std.proofs.Common.{ℕ, List, subst}
use Rattle.std.specs.Prelude.{Ok, Err}
use Rattle.walrus_tools.specs.Facade.{Stream, Tells, stream_of}
use Rattle.mulkavesh.specs.Cause.{SaysRefused, error_of, said_text}
use Rattle.mulkavesh.specs.Command.{Device, device_of, unaccepted_text}
use Rattle.mulkavesh.specs.Subcommands.{AnswersOrder}
use Rattle.mulkavesh.specs.Message.{line}
use Rattle.mulkavesh.proofs.Refusals.{tells_error, tells_read, tells_refused}
use Rattle.mulkavesh.proofs.command.command.Goals as goal

pub returns-in-Ok-clause-runs : goal.returns-in-Ok-clause-runs
returns-in-Ok-clause-runs g c =
    let from : Device = device_of g.R.Source.left g.R.Source.read_failures g.R.Explains.name g.R.Explains.trouble g.R.Explains.is_left c.args.input.now c.carry.new.input in
    let to : Device = device_of g.W.Sink.held g.W.Sink.write_failures g.W.Explains.name g.W.Explains.trouble g.W.Explains.is_left c.args.output.now c.carry.new.output in
    let errors : Stream = stream_of g.E.Sink.held g.E.Sink.write_failures c.args.errors.now c.unaccepted.new.errors in
    let named = subst (λ (name : List ℕ). Tells errors (unaccepted_text c.args.order.now.work name c.deref.result.now)) c.name.ensures c.unaccepted.ensures.told in
    let told = subst (λ (note : List ℕ). Tells errors (unaccepted_text c.args.order.now.work from.name note)) c.deref.ensures.value named in
    record {
      answer = Ok c.in-Ok.answer;
      ran = c.in-Ok.ensures.headline;
      reads = c.in-Ok.ensures.reads;
      writes = c.in-Ok.ensures.writes;
      flushed = c.in-Ok.ensures.flushed;
      told = tells_refused (AnswersOrder c.args.order.now) c.args.order.now.work (SaysRefused c.args.order.now) from to errors c.unaccepted.result c.in-Ok.answer.is_refused c.in-Ok.answer.note.items c.if-carry.true (c.unaccepted.ensures.status, told);
    }

pub returns-in-Err-Read-clause-runs : goal.returns-in-Err-Read-clause-runs
returns-in-Err-Read-clause-runs g c =
    let from : Device = device_of g.R.Source.left g.R.Source.read_failures g.R.Explains.name g.R.Explains.trouble g.R.Explains.is_left c.args.input.now c.carry.new.input in
    let to : Device = device_of g.W.Sink.held g.W.Sink.write_failures g.W.Explains.name g.W.Explains.trouble g.W.Explains.is_left c.args.output.now c.carry.new.output in
    let errors : Stream = stream_of g.E.Sink.held g.E.Sink.write_failures c.args.errors.now c.refuse.new.errors in
    let named = subst (λ (name : List ℕ). Tells errors (line name c.trouble.result.now)) c.name-in-Err-Read.ensures c.refuse.ensures.told in
    let told = subst (λ (text : List ℕ). Tells errors (line from.name text)) c.trouble.ensures named in
    record {
      answer = Err (error_of c.in-Err-Read.field-0);
      ran = c.in-Err-Read.ensures.headline;
      reads = c.in-Err-Read.ensures.reads;
      writes = c.in-Err-Read.ensures.writes;
      flushed = c.in-Err-Read.ensures.flushed;
      told = tells_read (AnswersOrder c.args.order.now) c.args.order.now.work (SaysRefused c.args.order.now) from to errors c.refuse.result c.in-Err-Read.field-0 c.in-Err-Read.field-0-is (c.refuse.ensures.status, told);
    }

pub returns-in-Err-Refused-clause-runs : goal.returns-in-Err-Refused-clause-runs
returns-in-Err-Refused-clause-runs g c =
    let from : Device = device_of g.R.Source.left g.R.Source.read_failures g.R.Explains.name g.R.Explains.trouble g.R.Explains.is_left c.args.input.now c.carry.new.input in
    let to : Device = device_of g.W.Sink.held g.W.Sink.write_failures g.W.Explains.name g.W.Explains.trouble g.W.Explains.is_left c.args.output.now c.carry.new.output in
    let errors : Stream = stream_of g.E.Sink.held g.E.Sink.write_failures c.args.errors.now c.refuse_in.new.errors in
    let named = subst (λ (name : List ℕ). Tells errors (line name c.text_said.result.now)) c.name-in-Err-Refused.ensures c.refuse_in.ensures.told in
    let told = subst (λ (text : List ℕ). Tells errors (line from.name text)) {y = said_text c.args.order.now.work c.in-Err-Refused.error c.in-Err-Refused.said} c.text_said.ensures named in
    record {
      answer = Err (error_of c.in-Err-Refused.field-0);
      ran = c.in-Err-Refused.ensures.headline;
      reads = c.in-Err-Refused.ensures.reads;
      writes = c.in-Err-Refused.ensures.writes;
      flushed = c.in-Err-Refused.ensures.flushed;
      told = tells_error (AnswersOrder c.args.order.now) c.args.order.now.work (SaysRefused c.args.order.now) from to errors c.refuse_in.result
          c.in-Err-Refused.field-0 c.in-Err-Refused.error c.in-Err-Refused.said c.in-Err-Refused.field-0-is c.in-Err-Refused.ensures.found
          (c.refuse_in.ensures.status, told);
    }
