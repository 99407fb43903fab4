-- [Machine]: the step table of each kind of list.
use Rattle.lset_words.specs.declared.Kind.{Kind}
use Rattle.lset_words.specs.declared.Kind.TheVariants as kind
use Rattle.lset_steps.specs.Steps.{Table}
use Rattle.lset_coarse.specs.Coarse.{coarse}
use Rattle.lset_fine.specs.Fine.{fine}
use Rattle.lset_optimistic.specs.Optimistic.{optimistic}
use Rattle.lset_lazy.specs.Lazy.{lazy}
use Rattle.lset_lock_free.specs.LockFree.{lock_free}

abbrev pub table_of : Kind → Table
table_of kind.Coarse = coarse
table_of kind.Fine = fine
table_of kind.Optimistic = optimistic
table_of kind.Lazy = lazy
table_of kind.LockFree = lock_free
