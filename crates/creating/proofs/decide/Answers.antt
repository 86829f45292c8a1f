use Rattle.creating.proofs.Created.{create_caller, create_name, create_pages, create_named, create_full, create_placed, owner_small}
use native.Mathlib.Omega.{arith}
use borrow.Author.Rules.{rules}
use Rattle.lookup.proofs.Found.{found_low}
use Rattle.creating.proofs.decide.Goals as goal

pub returns-in_default : goal.returns-in_default
returns-in_default c = search create_caller

pub returns-then-not-good_name : goal.returns-then-not-good_name
returns-then-not-good_name c = search create_name

pub returns-then-is_some : goal.returns-then-is_some
returns-then-is_some c = search create_named

pub place-requires : goal.place-requires
place-requires c = search (owner_small, rules)

pub returns : goal.returns
returns c = search create_placed

pub bounds-s-at : goal.bounds-s-at
bounds-s-at c = search found_low

pub offset_bounds-s-at : goal.offset_bounds-s-at
offset_bounds-s-at c = record { fits = omega (arith, found_low 8 _ _ c.caller_place.ensures _ c.in-Some.is) }

pub returns-then-pages-eq0 : goal.returns-then-pages-eq0
returns-then-pages-eq0 c = search create_pages

pub returns-then-data_spaces-s : goal.returns-then-data_spaces-s
returns-then-data_spaces-s c = search create_full
