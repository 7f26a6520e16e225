-- So of a run.
use Rattle.walrus_theorem.specs.Engines.{RunLooksSame}
use Rattle.walrus_theorem.proofs.OneOutput.{read_imports}
use Rattle.walrus_theorem.proofs.EnginesWalk.{out_looks_same}

pub run_looks_same : RunLooksSame
run_looks_same c bytes output run = (out_looks_same c run.module_read run.module_written (read_imports c bytes run.module_read run.reads) run.out).0
