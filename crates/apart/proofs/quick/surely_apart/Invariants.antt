use Rattle.apart.specs.Rings.{ids_of, names_of, firsts_of, ends_of}
use Rattle.apart.proofs.Rings.{Filling}
use Rattle.apart.proofs.quick.surely_apart.Given as goal

abbrev pub invariant-loop-u : goal.invariant-loop-u
invariant-loop-u l = Filling (ids_of l.spaces) l.u l.columns.ids × Filling (names_of l.spaces) l.u l.columns.names × Filling (firsts_of l.spaces) l.u l.columns.firsts × Filling (ends_of l.spaces) l.u l.columns.ends
