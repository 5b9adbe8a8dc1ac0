use Rattle.std.proofs.Common.{◌∷◌, length, ap, arith}
use Rattle.std.proofs.lemmas.List.{length-append, length-drop, take_rest}
use Rattle.site_trials.proofs.run.Goals as goal

pub loop-name-smaller : goal.loop-name-smaller
loop-name-smaller c =
    let below = c.in-Some.below.now in
    let n = c.site_length-length.result in
    omega (arith, ap length (take_rest below n), length-drop n below, ap length c.in-Some.ensures.0, length-append c.in-Some.name.now (10 ∷ below))
