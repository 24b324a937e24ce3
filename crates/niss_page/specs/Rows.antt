-- The row of tables in an arena that stays.
use Rattle.std.specs.Prelude.{[]}
use denote.Builtin.{RefOf}
use denote.RattleType.{RattleType}
use denote.Signature.{plain, type_at}
use Rattle.bumpalo.specs.contracts.bump.Bump as Bump
use Rattle.bumpalo.specs.contracts.bump.BumpAllocator.TheImpl as bump
use Rattle.core.specs.contracts.alloc.RefAllocator.TheImpl as reference
use Rattle.core.specs.declared.alloc.Allocator.{Ghosts}
use Rattle.niss_search.specs.contracts.tables.Tables as Tables
use Rattle.niss_page.specs.contracts.one_block.OneBlock as OneBlock
use Rattle.niss_page.specs.contracts.one_block.OneBlockAllocator.TheImpl as one

-- a `&'static` to a block
abbrev pub lent_block_row : RattleType
lent_block_row = type_at {n = 0} (RefOf [] tt (plain (λ κs. OneBlock.the_row)) (λ κs. tt)) tt

abbrev pub lent_block_ghosts : Ghosts lent_block_row.Denot
lent_block_ghosts = reference.ghosts OneBlock.the_row one.ghosts reference.no_dict reference.no_dict

abbrev pub arena_row : RattleType
arena_row = Bump.the_row lent_block_row lent_block_ghosts

abbrev pub arena_ghosts : Ghosts arena_row.Denot
arena_ghosts = bump.ghosts lent_block_row lent_block_ghosts bump.no_dict bump.no_dict

-- a `&'static` to an arena
abbrev pub lent_arena_row : RattleType
lent_arena_row = type_at {n = 0} (RefOf [] tt (plain (λ κs. arena_row)) (λ κs. tt)) tt

abbrev pub lent_arena_ghosts : Ghosts lent_arena_row.Denot
lent_arena_ghosts = reference.ghosts arena_row arena_ghosts reference.no_dict reference.no_dict

abbrev pub tables_row : RattleType
tables_row = Tables.the_row lent_arena_row lent_arena_ghosts
