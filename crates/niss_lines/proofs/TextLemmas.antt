-- Short texts that have room in 2,048 bytes.
use Rattle.std.proofs.Common.{◌≡◌, ℕ, zero, suc, ◌≤◌, Option, Some, List, length, sym, subst, arith}
use Rattle.std.specs.Prelude.{IfSome}
use Rattle.niss_cube.specs.declared.step.Step.TheVariants.{Eofb, Eorl, Eoud, DrudEofb, DrrlEofb, DrudEorl, DrfbEorl}
use Rattle.niss_cube.specs.declared.step.Step.TheVariants.{DrrlEoud, DrfbEoud, Eo, DrEofb, DrEorl, DrEoud}
use Rattle.niss_cube.specs.Steps.{start_name_of}
use Rattle.niss_shell.specs.Names.{Step}
use Rattle.niss_lines.specs.LineCalls.{enough_bytes, fault_text_of}

abbrev HasRoom : Option (List ℕ) → Type 0
HasRoom text = IfSome text (λ bytes. length bytes ≤ enough_bytes)

starts : (step : Step) → HasRoom (start_name_of step)
starts Eofb = tt
starts Eorl = tt
starts Eoud = tt
starts DrudEofb = omega arith
starts DrrlEofb = omega arith
starts DrudEorl = omega arith
starts DrfbEorl = omega arith
starts DrrlEoud = omega arith
starts DrfbEoud = omega arith
starts Eo = tt
starts DrEofb = omega arith
starts DrEorl = omega arith
starts DrEoud = omega arith

faults : (number : ℕ) → HasRoom (fault_text_of number)
faults zero = tt
faults (suc zero) = omega arith
faults (suc (suc zero)) = omega arith
faults (suc (suc (suc zero))) = omega arith
faults (suc (suc (suc (suc zero)))) = omega arith
faults (suc (suc (suc (suc (suc zero))))) = omega arith
faults (suc (suc (suc (suc (suc (suc zero)))))) = omega arith
faults (suc (suc (suc (suc (suc (suc (suc number))))))) = tt

pub start_has_room : (step : Step) {bytes : List ℕ} → Some bytes ≡ start_name_of step → length bytes ≤ enough_bytes
start_has_room step e = subst HasRoom (sym e) (starts step)

pub fault_has_room : (number : ℕ) {bytes : List ℕ} → Some bytes ≡ fault_text_of number → length bytes ≤ enough_bytes
fault_has_room number e = subst HasRoom (sym e) (faults number)
