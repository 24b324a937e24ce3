-- Tables in an arena that stays meet the laws of a type. Assumes nothing.
use Rattle.std.proofs.Common.{[], refl}
use mir.Syntax.{static}
use denote.Builtin.{One}
use denote.Param.Laws.{Laws, of_field, is_one}
use denote.Param.Shared.{copy_shared}
use denote.Ref.{NamedLft}
use denote.Struct.Field.{Field, shr_ref_field}
use denote.Struct.Laws.{shr_ref_laws, shr_ref_copy}
use Rattle.bumpalo.proofs.bump.Bump.TheLaws as bump
use Rattle.niss_search.proofs.tables.Tables.TheLaws as tables
use Rattle.niss_page.specs.Rows.{lent_block_row, lent_block_ghosts, arena_row, lent_arena_row, lent_arena_ghosts, tables_row}
use Rattle.niss_page.specs.contracts.one_block.OneBlock as OneBlock
use Rattle.niss_page.proofs.one_block.OneBlock.TheLaws as one_block

abbrev for_good : NamedLft
for_good = record { mir = static; lft = [] }

abbrev block_one : One OneBlock.the_row.mir
block_one = is_one OneBlock.the_row one_block.the_row_laws

abbrev lent_block : Field
lent_block = shr_ref_field for_good OneBlock.the_row block_one

lent_block_laws : Laws lent_block_row
lent_block_laws =
    of_field lent_block (shr_ref_laws for_good OneBlock.the_row block_one) refl
    (copy_shared lent_block (shr_ref_copy for_good OneBlock.the_row block_one one_block.the_row_laws.shr_laws))

arena_laws : Laws arena_row
arena_laws = bump.the_row_laws lent_block_row lent_block_ghosts lent_block_laws

abbrev arena_one : One arena_row.mir
arena_one = is_one arena_row arena_laws

abbrev lent_arena : Field
lent_arena = shr_ref_field for_good arena_row arena_one

lent_arena_laws : Laws lent_arena_row
lent_arena_laws =
    of_field lent_arena (shr_ref_laws for_good arena_row arena_one) refl
    (copy_shared lent_arena (shr_ref_copy for_good arena_row arena_one arena_laws.shr_laws))

pub lent_tables_laws : Laws tables_row
lent_tables_laws = tables.the_row_laws lent_arena_row lent_arena_ghosts lent_arena_laws
