use Rattle.std.proofs.Common.{ℕ, List, subst}
use Rattle.std.specs.Prelude.{IfSome, Ok, Err}
use Rattle.std.specs.Io.KnownBytes.{Appends}
use Rattle.walrus_tools.specs.Facade.{WroteFront}
use Rattle.mulkavesh.specs.Cause.{SaysRefused}
use Rattle.mulkavesh.specs.Subcommands.{AnswersOrder}
use Rattle.mulkavesh.proofs.CauseLemmas.{found_read}
use Rattle.mulkavesh.proofs.command.carry.Goals as goal

pub returns-in-Ok-write_all-clause-headline : goal.returns-in-Ok-write_all-clause-headline
returns-in-Ok-write_all-clause-headline g c =
    let answers = subst (λ (bytes : List ℕ). AnswersOrder c.args.order.now bytes (Ok c.in-Ok-make.answer)) c.deref.ensures.value c.in-Ok-make.ensures in
    let appended = subst (λ (output : List ℕ). Appends (g.W.Sink.held c.args.output.now) (g.W.Sink.held c.write_all.new.sink) output) c.deref-2.ensures.value c.in-Ok-write_all.ensures.ok in
    ((c.in-Ok.bytes.items, (record { consumed = c.in-Ok.ensures.all; ended = c.in-Ok.ensures.end }, answers)), appended)

pub returns-in-Err-write_all-clause-headline : goal.returns-in-Err-write_all-clause-headline
returns-in-Err-write_all-clause-headline g c =
    let answers = subst (λ (bytes : List ℕ). AnswersOrder c.args.order.now bytes (Ok c.in-Ok-make.answer)) c.deref.ensures.value c.in-Ok-make.ensures in
    let begun = subst (λ (output : List ℕ). WroteFront (g.W.Sink.held c.args.output.now) (g.W.Sink.held c.write_all.new.sink) output) c.deref-2.ensures.value c.in-Err-write_all.ensures.begun in
    (c.in-Ok.bytes.items, (c.in-Ok-make.answer, ((record { consumed = c.in-Ok.ensures.all; ended = c.in-Ok.ensures.end }, answers), begun)))

pub returns-in-Err-clause-found : goal.returns-in-Err-clause-found
returns-in-Err-clause-found g c =
    let answers = subst (λ (bytes : List ℕ). AnswersOrder c.args.order.now bytes (Err c.in-Err.error)) c.deref.ensures.value c.in-Err.ensures in
    let says = subst (λ (bytes : List ℕ). IfSome c.said_of-said.result (λ text. SaysRefused c.args.order.now bytes c.in-Err.error text.items)) c.deref-in-Err.ensures.value c.said_of-said.ensures in
    found_read (AnswersOrder c.args.order.now) _ _ (SaysRefused c.args.order.now) c.in-Ok.bytes.items c.in-Err.error (record { consumed = c.in-Ok.ensures.all; ended = c.in-Ok.ensures.end }) answers c.said_of-said.result says
