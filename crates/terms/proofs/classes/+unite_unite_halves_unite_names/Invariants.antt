use Rattle.terms.specs.Names.{class_count}
use Prim.Native.Nat.{◌*◌, ◌+◌}
use Rattle.terms.proofs.classes.+unite_unite_halves_unite_names.Given as goal

abbrev pub decreases-unite : goal.decreases-unite
decreases-unite l = 3 * class_count l.c.now + 1

abbrev pub decreases-unite_halves : goal.decreases-unite_halves
decreases-unite_halves l = 3 * class_count l.c.now + 2

abbrev pub decreases-unite_names : goal.decreases-unite_names
decreases-unite_names l = 3 * class_count l.c.now
