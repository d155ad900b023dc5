-- What cells say, by computing.
use Rattle.std.proofs.Common.{◌≡◌, ℕ, Ok, Err, Result}
use Rattle.std.specs.Prelude.{codes}
use Prim.Native.String.{String}
use Rattle.x86_subset.specs.declared.instr.Reg.TheVariants.{Eax, Edi}
use Rattle.x86_subset.specs.declared.cell.InstrError.TheVariants.{Unknown, Operand, Number}
use Rattle.x86_subset.specs.Token.{start, is_blank, is_head, is_tail, sign, is_pair, close_end, pair_cut, cut_at, lex}
use Rattle.x86_subset.specs.Form.{register_of, fill, fit, meaning}
use Rattle.x86_subset.specs.declared.cell.InstrError.{InstrError}
use Rattle.x86_subset.specs.Cell.{Form, Blank, Fence, StoreNumber, StoreRegister, Load, Constant, Exchange, parse}

everything : ℕ
unfolding is_blank is_head is_tail sign is_pair close_end pair_cut cut_at lex register_of fill fit meaning parse
everything = 0

abbrev cell : String → Result Form InstrError
cell text = parse (lex 0 start (codes text))

accepted : (cell "  (* nothing *) " ≡ Ok Blank)
    × (cell "MOV [x],$1" ≡ Ok (StoreNumber (codes "x") 1))
    × (cell "mov [x],4294967295" ≡ Ok (StoreNumber (codes "x") 4294967295))
    × (cell "Mov [y] , edi" ≡ Ok (StoreRegister (codes "y") Edi))
    × (cell "MOV EAX,[y]" ≡ Ok (Load Eax (codes "y")))
    × (cell "MOV EAX,$7" ≡ Ok (Constant Eax 7))
    × (cell "MFENCE" ≡ Ok Fence)
    × (cell "XCHG [x],EAX" ≡ Ok (Exchange (codes "x") Eax))
    × (cell "xchg EAX,[x]" ≡ Ok (Exchange (codes "x") Eax))
unfolding everything
accepted = assumption

refused : (cell "MOV [x],$4294967296" ≡ Err Number)
    × (cell "MOV EAX,$99999999999" ≡ Err Number)
    × (cell "INC [x]" ≡ Err Unknown)
    × (cell "[x],1" ≡ Err Unknown)
    × (cell "MOV" ≡ Err Operand)
    × (cell "MFENCE 4294967296" ≡ Err Operand)
    × (cell "MOV [EAX],1" ≡ Err Operand)
    × (cell "MOV EAX,EBX" ≡ Err Operand)
unfolding everything
refused = assumption
