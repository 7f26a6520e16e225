use Rattle.wasm_payloads.proofs.front.+front_groups.Given as goal

abbrev pub decreases-front_groups : goal.decreases-front_groups
decreases-front_groups l = l.most
