use Rattle.std.proofs.Common.{◌++◌, codes}
use Rattle.std.proofs.KnownBytes.{Appends-trans}
use Rattle.walrus.proofs.DeviceLemmas.{on_err, on_ok_map, on_err_map, front_of_first, front_of_second}
use Rattle.walrus.proofs.message.write_line.Goals as goal

pub returns-in_err-write_all-clause-begun : goal.returns-in_err-write_all-clause-begun
returns-in_err-write_all-clause-begun g c =
    on_err c.from_residual.result (front_of_first _ _ (codes "walrus-gc: ") (c.args.text.now ++ codes "\n") c.in_err-write_all.ensures.begun)

pub returns-in_err-write_all-2-clause-begun : goal.returns-in_err-write_all-2-clause-begun
returns-in_err-write_all-2-clause-begun g c =
    rw (← c.as_bytes.ensures.value) (on_err c.from_residual-in_err-write_all-2.result
    (front_of_second _ _ _ (codes "walrus-gc: ") (c.as_bytes.result.now ++ codes "\n") c.in_ok-write_all.ensures.ok
    (front_of_first _ _ c.as_bytes.result.now (codes "\n") c.in_err-write_all-2.ensures.begun)))

pub returns-clause-ok : goal.returns-clause-ok
returns-clause-ok g c =
    rw (← c.as_bytes.ensures.value) (on_ok_map c.write_all-3.result
    (λ last. Appends-trans _ _ _ (codes "walrus-gc: ") (c.as_bytes.result.now ++ codes "\n") c.in_ok-write_all.ensures.ok
    (Appends-trans _ _ _ c.as_bytes.result.now (codes "\n") c.in_ok-write_all-2.ensures.ok last))
    c.write_all-3.ensures.ok)

pub returns-clause-begun : goal.returns-clause-begun
returns-clause-begun g c =
    rw (← c.as_bytes.ensures.value) (on_err_map c.write_all-3.result
    (λ last. front_of_second _ _ _ (codes "walrus-gc: ") (c.as_bytes.result.now ++ codes "\n") c.in_ok-write_all.ensures.ok
    (front_of_second _ _ _ c.as_bytes.result.now (codes "\n") c.in_ok-write_all-2.ensures.ok last))
    c.write_all-3.ensures.begun)
