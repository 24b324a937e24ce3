-- What a kept pointer owns may be had by any thread. Assumes `Logic`.
use Rattle.std.specs.Prelude.{Bool, true, false, []}
use base.Fml.{ftrue}
use base.Shift.{Keyless}
use denote.RawPtr.{Ptr, block_ptr, null_ptr, in_block, block_of, count_of}
use denote.Param.Send.{IsSync}
use Rattle.std_heap.proofs.Global.TheSendSync as handle
use Rattle.std_heap.specs.contracts.Global as Heap
use Rattle.std_heap.specs.contracts.GlobalAllocator.TheImpl.{ghosts}
use Rattle.niss_search.proofs.tables.Tables.TheSendSync as tables
use Rattle.niss_kept.specs.Ownership.{tables_row, TheStep, kept_owns}

tables_sync : IsSync tables_row
tables_sync = tables.the_sync Heap.the_row ghosts handle.the_sync

inside : (p : Ptr) → Keyless (in_block p ftrue)
inside (block_ptr b o) = tt
inside null_ptr = tt

pub kept_keyless : (y : Bool) (p : Ptr) (x : TheStep) → Keyless (kept_owns y p x)
kept_keyless true p x = (inside p, tables_sync.shared x (block_of p) (count_of p) [])
kept_keyless false p x = tt
