use native.Mathlib.Omega.{arith}
use Rattle.lookup.proofs.Found.{found_is, found_low, found_none}
use Rattle.lookup.proofs.Owning.{owned_found, owned_none}
use Rattle.lookup.proofs.owned_space.Goals as goal

pub returns-in_default : goal.returns-in_default
returns-in_default c = search (owned_none, found_none)

pub bounds-spaces-u : goal.bounds-spaces-u
bounds-spaces-u c = search found_low

pub offset_bounds-spaces-u : goal.offset_bounds-spaces-u
offset_bounds-spaces-u c = record { fits = omega (arith, found_low 32 _ _ c.find_space.ensures _ c.in-Some.is) }

pub returns : goal.returns
returns c = search (owned_found, found_is)
