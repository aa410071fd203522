-- The Rust original, src/assembler.rs, function by function under its own names, `rust_` in front where another definition
-- has the name. Callees stand first, so the file's order is the Rust's by groups: parsers, encoders, instructions, `assemble`.
-- `self.labels` is a parameter, `println!` and what is marked `#[allow(dead_code)]` are left out. Assumes nothing.
use Rattle.std.specs.Prelude.{ℕ, ◌-◌, Bool, false, not, ◌&&◌, ◌||◌, cond, length, drop, leb, ltb, eqb, ℤ, pos, negsuc, Option, None, Some, option_map}
use mathlib.Core.List.{List, [], ◌∷◌, map, foldl}
use Rattle.std.specs.Int.Bits.{bit_and, bit_or}
use Rattle.rules.specs.Text.{Text, bytes}
use Rattle.promises_rust.specs.RustStr.{◌>>=◌, ◌then◌, when, rust_is_some, at, get, push, filter, all, is_empty, equals, trim, split, split_whitespace, splitn_2, to_uppercase, starts_with, ends_with, contains, strip_prefix, slice, join, is_ascii_digit, to_digit, u_from_str_radix, i8_from_str_radix, u_parse, i8_parse, range_contains, as_u8, as_u16, as_signed, as_i8, i8_as_u16, add_u32, sub_i32, shr, shl_u16, HashMap, insert, look_up, ◌⇒◌, match}

-- `|`, `&` and `<<` of a u16
infixl 40 ◌or◌
abbrev pub ◌or◌ : ℕ → ℕ → ℕ
◌or◌ a b = bit_or a b

infixl 50 ◌and◌
abbrev pub ◌and◌ : ℕ → ℕ → ℕ
◌and◌ a b = bit_and a b

infixl 60 ◌<<◌
abbrev pub ◌<<◌ : ℕ → ℕ → ℕ
◌<<◌ a k = shl_u16 a k

-- the fields that are read: `label`, `machine_code` and `extension_word` are never anything but None
pub record AssemblyInstruction : Type 0 where
  pub address : ℕ
  pub mnemonic : Text
  pub operands : List Text
  pub size : ℕ

-- (u16, Option<u16>): an opcode, and its extension word if it has one
abbrev pub Code : Type 0
Code = ℕ × Option ℕ

-- `.map(|c| (c, None))`
abbrev pub no_ext : Option ℕ → Option Code
no_ext o = option_map (λ c. (c, None)) o

-- an Option<u32>; `.ok()` is left out here and below, as the readers of RustStr answer options
unfoldable pub parse_org_directive : Text → Option ℕ
parse_org_directive line =
    let parts = split_whitespace line in
    cond (ltb (length parts) 2) None
    (let addr_str = at parts 1 in
    cond (starts_with addr_str (bytes "$")) (u_from_str_radix 32 (drop 1 addr_str) 16)
    (cond (starts_with addr_str (bytes "0x")) (u_from_str_radix 32 (drop 2 addr_str) 16) (u_parse 32 addr_str)))

-- `label` and `directive_str` of parse_data_directive_with_value
pub record Parts : Type 0 where
  pub label : Text
  pub directive_str : Text

abbrev parts_of : Text → Text → Parts
parts_of l d = record { label = l; directive_str = d }

unfoldable pub label_and_directive : Text → Parts
label_and_directive line =
    cond (contains line (bytes ":"))
    (let parts = splitn_2 58 line in parts_of (trim (at parts 0)) (trim (at parts 1)))
    (let parts = split_whitespace line in
    cond (leb 2 (length parts))
    (let first_word = to_uppercase (at parts 0) in
    cond (not (starts_with first_word (bytes "DC")) && not (starts_with first_word (bytes "DS")))
    (parts_of (at parts 0) (join (drop 1 parts) (bytes " ")))
    (parts_of [] line))
    (parts_of [] line))

-- `size` of parse_data_directive_with_value
unfoldable pub directive_size : Text → ℕ
directive_size line_upper =
    cond (contains line_upper (bytes "DC.L") || contains line_upper (bytes "DS.L")) 4
    (cond (contains line_upper (bytes "DC.W") || contains line_upper (bytes "DS.W")) 2
    (cond (contains line_upper (bytes "DC.B") || contains line_upper (bytes "DS.B")) 1 2))

-- `value` of parse_data_directive_with_value
unfoldable pub directive_value : Text → Text → Option ℕ
directive_value line_upper directive_str =
    when (contains line_upper (bytes "DC."))
    (let parts = split_whitespace directive_str in
    when (leb 2 (length parts))
    (let value_str = trim (at parts 1) in
    cond (starts_with value_str (bytes "$")) (u_from_str_radix 32 (drop 1 value_str) 16)
    (cond (starts_with value_str (bytes "0x")) (u_from_str_radix 32 (drop 2 value_str) 16) (u_parse 32 value_str))))

-- (String, u32, Option<u32>)
pub record Directive : Type 0 where
  pub label : Text
  pub size : ℕ
  pub value : Option ℕ

-- always Some: `if let Some(..)` in `assemble` never fails
unfoldable pub parse_data_directive_with_value : Text → Option Directive
parse_data_directive_with_value line =
    let line_upper = to_uppercase line in
    let parts = label_and_directive line in
    Some (record { label = parts.label; size = directive_size line_upper; value = directive_value line_upper parts.directive_str })

-- `hex_str` of parse_immediate and parse_immediate_u16
unfoldable pub hex_str : Text → Text
hex_str value_str = elim (strip_prefix value_str (bytes "0x")) [ None ↦ drop 1 value_str | Some stripped ↦ stripped ]

-- an Option<i8>
unfoldable pub parse_immediate : Text → Option ℤ
parse_immediate operand =
    cond (not (starts_with operand (bytes "#"))) None
    (let value_str = drop 1 operand in
    cond (starts_with value_str (bytes "0x") || starts_with value_str (bytes "$")) (i8_from_str_radix (hex_str value_str) 16) (i8_parse value_str))

-- an Option<u16>
unfoldable pub parse_immediate_u16 : Text → Option ℕ
parse_immediate_u16 operand =
    cond (not (starts_with operand (bytes "#"))) None
    (let value_str = drop 1 operand in
    cond (starts_with value_str (bytes "0x") || starts_with value_str (bytes "$")) (u_from_str_radix 16 (hex_str value_str) 16) (u_parse 16 value_str))

-- an Option<u8>; what the `if`s let fall through is None
unfoldable pub parse_data_register : Text → Option ℕ
parse_data_register operand =
    when (eqb (length operand) 2 && starts_with operand (bytes "D"))
    (do
      reg_num ← get operand 1
      when (is_ascii_digit reg_num)
          (do
            d ← to_digit reg_num 10
            let num = as_u8 d in when (leb num 7) (Some num)))

-- an Option<u8>
unfoldable pub parse_address_register : Text → Option ℕ
parse_address_register operand =
    when (eqb (length operand) 2 && starts_with operand (bytes "A"))
    (do
      reg_num ← get operand 1
      when (is_ascii_digit reg_num)
          (do
            d ← to_digit reg_num 10
            let num = as_u8 d in when (leb num 7) (Some num)))

-- `&operand[1..operand.len() - 1]` cannot fail: no byte is both brackets
unfoldable pub parse_indirect_register : Text → Option ℕ
parse_indirect_register operand =
    when (starts_with operand (bytes "(") && ends_with operand (bytes ")"))
    (let inner = slice operand 1 (length operand - 1) in parse_address_register inner)

-- an Option<u16>
unfoldable pub parse_immediate_address : HashMap → Text → Option ℕ
parse_immediate_address labels operand =
    cond (starts_with operand (bytes "$")) (u_from_str_radix 16 (drop 1 operand) 16)
    (cond (starts_with operand (bytes "0x")) (u_from_str_radix 16 (drop 2 operand) 16)
    (cond (all is_ascii_digit operand) (u_parse 16 operand) (do address ← look_up labels operand; Some (as_u16 address))))

-- an Option<i8>; the subtractions are those of i32
unfoldable pub parse_branch_displacement : HashMap → Text → ℕ → Option ℤ
parse_branch_displacement labels operand current_address =
    (do
      target_address ← look_up labels operand
      let displacement = sub_i32 (sub_i32 (as_signed 32 target_address) (as_signed 32 current_address)) (pos 2) in
          when (range_contains (negsuc 127) (pos 127) displacement) (Some (as_i8 displacement)))
    then when (starts_with operand (bytes "+") || starts_with operand (bytes "-")) (i8_parse operand)

-- MOVEQ #immediate, Dn
unfoldable pub encode_moveq : AssemblyInstruction → Option ℕ
encode_moveq instruction =
    cond (not (eqb (length instruction.operands) 2)) None
    (do
      immediate ← parse_immediate (at instruction.operands 0)
      register ← parse_data_register (at instruction.operands 1)
      Some (0x7000 or (as_u16 register << 9) or (i8_as_u16 immediate and 0xFF)))

-- MOVE with extension word support: blocks tried in order, each returning or falling through
unfoldable pub encode_move_with_ext : HashMap → AssemblyInstruction → Option Code
encode_move_with_ext labels instruction =
    cond (not (eqb (length instruction.operands) 2)) None
    (let source = at instruction.operands 0 in
    let dest = at instruction.operands 1 in
    when (starts_with source (bytes "#"))
    (do
      dest_reg ← parse_data_register dest
      imm_value ← parse_immediate_u16 source
      Some (0x21FC or (as_u16 dest_reg << 9), Some imm_value))
    then (do
      src_areg ← parse_indirect_register source
      dest_reg ← parse_data_register dest
      Some (0x2010 or (as_u16 dest_reg << 9) or as_u16 src_areg, None))
    then (do
      src_reg ← parse_data_register source
      dest_areg ← parse_indirect_register dest
      Some (0x2080 or (as_u16 dest_areg << 9) or as_u16 src_reg, None))
    then (do
      source_reg ← parse_data_register source
      dest_reg ← parse_data_register dest
      Some (0x3000 or (as_u16 dest_reg << 9) or as_u16 source_reg, None))
    then (do
      dest_reg ← parse_data_register dest
      label_addr ← look_up labels source
      Some (0x2078 or (as_u16 dest_reg << 9), Some (as_u16 label_addr)))
    then (do
      source_reg ← parse_data_register source
      label_addr ← look_up labels dest
      Some (0x23C0 or as_u16 source_reg, Some (as_u16 label_addr)))
    then None)

-- MOVEA #label, An
unfoldable pub encode_movea_with_ext : HashMap → AssemblyInstruction → Option Code
encode_movea_with_ext labels instruction =
    cond (not (eqb (length instruction.operands) 2)) None
    (let source = at instruction.operands 0 in
    let dest = at instruction.operands 1 in
    when (starts_with source (bytes "#"))
    (do
      dest_areg ← parse_address_register dest
      label_addr ← look_up labels (drop 1 source)
      Some (0x207C or (as_u16 dest_areg << 9), Some (as_u16 label_addr)))
    then None)

-- MULS #imm, Dn or MULS Dn, Dm
unfoldable pub encode_muls_with_ext : AssemblyInstruction → Option Code
encode_muls_with_ext instruction =
    cond (not (eqb (length instruction.operands) 2)) None
    (let source = at instruction.operands 0 in
    let dest = at instruction.operands 1 in
    (do
      dest_reg ← parse_data_register dest
      cond (starts_with source (bytes "#"))
          (do
            imm_value ← parse_immediate_u16 source
            Some (0xC1FC or (as_u16 dest_reg << 9), Some imm_value))
          (do
            src_reg ← parse_data_register source
            Some (0xC1C0 or (as_u16 dest_reg << 9) or as_u16 src_reg, None)))
    then None)

-- Bcc displacement
unfoldable pub encode_branch : HashMap → AssemblyInstruction → ℕ → Option ℕ
encode_branch labels instruction condition =
    cond (is_empty instruction.operands) None
    (do
      displacement ← parse_branch_displacement labels (at instruction.operands 0) instruction.address
      Some (0x6000 or (condition << 8) or (i8_as_u16 displacement and 0xFF)))

-- ADD Dx, Dy
unfoldable pub encode_add : AssemblyInstruction → Option ℕ
encode_add instruction =
    cond (not (eqb (length instruction.operands) 2)) None
    (do
      source_reg ← parse_data_register (at instruction.operands 0)
      dest_reg ← parse_data_register (at instruction.operands 1)
      Some (0xD040 or (as_u16 dest_reg << 9) or as_u16 source_reg))

-- SUB Dx, Dy
unfoldable pub encode_sub : AssemblyInstruction → Option ℕ
encode_sub instruction =
    cond (not (eqb (length instruction.operands) 2)) None
    (do
      source_reg ← parse_data_register (at instruction.operands 0)
      dest_reg ← parse_data_register (at instruction.operands 1)
      Some (0x9040 or (as_u16 dest_reg << 9) or as_u16 source_reg))

-- CMP #immediate, Dy or CMP Dx, Dy
unfoldable pub encode_cmp_with_ext : AssemblyInstruction → Option Code
encode_cmp_with_ext instruction =
    cond (not (eqb (length instruction.operands) 2)) None
    (cond (starts_with (at instruction.operands 0) (bytes "#"))
    (do
      immediate ← parse_immediate_u16 (at instruction.operands 0)
      dest_reg ← parse_data_register (at instruction.operands 1)
      Some (0x0C80 or as_u16 dest_reg, Some immediate))
    (do
      source_reg ← parse_data_register (at instruction.operands 0)
      dest_reg ← parse_data_register (at instruction.operands 1)
      Some (0xB040 or (as_u16 dest_reg << 9) or as_u16 source_reg, None)))

-- JMP: the address is not encoded
unfoldable pub encode_jump : HashMap → AssemblyInstruction → Option ℕ
encode_jump labels instruction =
    cond (not (eqb (length instruction.operands) 1)) None
    (cond (rust_is_some (parse_immediate_address labels (at instruction.operands 0))) (Some 0x4EF8) None)

-- TST.L Dn
unfoldable pub encode_tst : AssemblyInstruction → Option ℕ
encode_tst instruction =
    cond (not (eqb (length instruction.operands) 1)) None
    (do
      reg ← parse_data_register (at instruction.operands 0)
      Some (0x4A80 or as_u16 reg))

-- SUBQ.L #immediate, Dn: "Convert 8 to 0 for encoding"
unfoldable pub encode_subq : AssemblyInstruction → Option ℕ
encode_subq instruction =
    cond (not (eqb (length instruction.operands) 2)) None
    (do
      i8 ← parse_immediate (at instruction.operands 0)
      reg ← parse_data_register (at instruction.operands 1)
      let immediate = i8_as_u16 i8 in
          let data' = cond (eqb immediate 8) 0 (immediate and 7) in
          Some (0x5180 or (data' << 9) or as_u16 reg))

-- ASL.L #immediate, Dn
unfoldable pub encode_asl : AssemblyInstruction → Option ℕ
encode_asl instruction =
    cond (not (eqb (length instruction.operands) 2)) None
    (do
      i8 ← parse_immediate (at instruction.operands 0)
      reg ← parse_data_register (at instruction.operands 1)
      let shift_count = i8_as_u16 i8 in
          let count = cond (eqb shift_count 8) 0 (shift_count and 7) in
          Some (0xE180 or (count << 9) or as_u16 reg))

-- DBRA Dn, label: the displacement is not encoded
unfoldable pub encode_dbra : HashMap → AssemblyInstruction → Option ℕ
encode_dbra labels instruction =
    cond (not (eqb (length instruction.operands) 2)) None
    (do
      reg ← parse_data_register (at instruction.operands 0)
      displacement ← parse_branch_displacement labels (at instruction.operands 1) instruction.address
      Some (0x51C8 or as_u16 reg))

-- `== Some(&"L")`
unfoldable pub rust_is_l : Option Text → Bool
rust_is_l None = false
rust_is_l (Some p) = equals p (bytes "L")

-- `size` of parse_instruction, with two or more operands
unfoldable pub rust_instruction_size : Text → List Text → Text → Text → ℕ
rust_instruction_size mnemonic mnemonic_parts src dst =
    cond ((equals mnemonic (bytes "MOVE") || equals mnemonic (bytes "MOVEA")) && rust_is_l (get mnemonic_parts 1))
    (cond (starts_with src (bytes "#") || not (starts_with src (bytes "D")) && not (starts_with src (bytes "A")) && not (starts_with src (bytes "("))) 4
    (cond (not (starts_with dst (bytes "D")) && not (starts_with dst (bytes "A")) && not (starts_with dst (bytes "("))) 4 2))
    (cond (equals mnemonic (bytes "CMP") && rust_is_l (get mnemonic_parts 1) && starts_with src (bytes "#")) 4
    (cond (equals mnemonic (bytes "MULS") && starts_with src (bytes "#")) 4 2))

-- mnemonic, operands and size of a line that is an instruction
unfoldable pub parse_instruction : Text → ℕ → AssemblyInstruction
parse_instruction line address =
    let parts = split_whitespace line in
    cond (is_empty parts) (record { address = address; mnemonic = []; operands = []; size = 2 })
    (let mnemonic_parts = split 46 (at parts 0) in
    let mnemonic = to_uppercase (at mnemonic_parts 0) in
    let operands =
    cond (ltb 1 (length parts)) (filter (λ s. not (is_empty s)) (map trim (split 44 (join (drop 1 parts) (bytes " "))))) [] in
    let size =
    cond (leb 2 (length operands)) (rust_instruction_size mnemonic mnemonic_parts (at operands 0) (at operands (length operands - 1))) 2 in
    record { address = address; mnemonic = mnemonic; operands = operands; size = size })

-- the match on the mnemonic; "JMP" | "JUMP" is two arms
unfoldable pub encode_instruction_with_ext : HashMap → AssemblyInstruction → Option Code
encode_instruction_with_ext labels instruction =
    match instruction.mnemonic
    ((bytes "MOVEQ" ⇒ no_ext (encode_moveq instruction))
    ∷ (bytes "MOVE" ⇒ encode_move_with_ext labels instruction)
    ∷ (bytes "MOVEA" ⇒ encode_movea_with_ext labels instruction)
    ∷ (bytes "MULS" ⇒ encode_muls_with_ext instruction)
    ∷ (bytes "TST" ⇒ no_ext (encode_tst instruction))
    ∷ (bytes "SUBQ" ⇒ no_ext (encode_subq instruction))
    ∷ (bytes "ASL" ⇒ no_ext (encode_asl instruction))
    ∷ (bytes "DBRA" ⇒ no_ext (encode_dbra labels instruction))
    ∷ (bytes "BRA" ⇒ no_ext (encode_branch labels instruction 0x0))
    ∷ (bytes "BEQ" ⇒ no_ext (encode_branch labels instruction 0x7))
    ∷ (bytes "BNE" ⇒ no_ext (encode_branch labels instruction 0x6))
    ∷ (bytes "BCC" ⇒ no_ext (encode_branch labels instruction 0x4))
    ∷ (bytes "BCS" ⇒ no_ext (encode_branch labels instruction 0x5))
    ∷ (bytes "BPL" ⇒ no_ext (encode_branch labels instruction 0x8))
    ∷ (bytes "BMI" ⇒ no_ext (encode_branch labels instruction 0x9))
    ∷ (bytes "BGE" ⇒ no_ext (encode_branch labels instruction 0xC))
    ∷ (bytes "BLT" ⇒ no_ext (encode_branch labels instruction 0xD))
    ∷ (bytes "BGT" ⇒ no_ext (encode_branch labels instruction 0xE))
    ∷ (bytes "BLE" ⇒ no_ext (encode_branch labels instruction 0xF))
    ∷ (bytes "NOP" ⇒ Some (0x4E71, None))
    ∷ (bytes "SIMHALT" ⇒ Some (0x4E72, None))
    ∷ (bytes "ADD" ⇒ no_ext (encode_add instruction))
    ∷ (bytes "SUB" ⇒ no_ext (encode_sub instruction))
    ∷ (bytes "CMP" ⇒ encode_cmp_with_ext instruction)
    ∷ (bytes "JMP" ⇒ no_ext (encode_jump labels instruction))
    ∷ (bytes "JUMP" ⇒ no_ext (encode_jump labels instruction))
    ∷ [])

-- the variables of the first pass's loop
pub record State : Type 0 where
  pub labels : HashMap
  pub instructions : List AssemblyInstruction
  pub data_values : List (ℕ × ℕ)
  pub current_address : ℕ

-- what the loop does after a line's body: `continue` (also at the body's end) or `break`
pub data Flow : Type 0 where
  continue : State → Flow
  break : State → Flow

-- `current_address = addr`
unfoldable pub set_address : ℕ → State → State
set_address addr s =
    record { labels = s.labels; instructions = s.instructions; data_values = s.data_values; current_address = addr }

-- `self.labels.insert(label, current_address)`
unfoldable pub insert_label : Text → State → State
insert_label label s =
    record {
      labels = insert s.labels label s.current_address;
      instructions = s.instructions;
      data_values = s.data_values;
      current_address = s.current_address;
    }

-- `if let Some(val) = value { data_values.push((current_address, val)); }`
unfoldable pub push_value : Option ℕ → State → State
push_value None s = s
push_value (Some val) s =
    record {
      labels = s.labels;
      instructions = s.instructions;
      data_values = push s.data_values (s.current_address, val);
      current_address = s.current_address;
    }

-- "Handle data directives"
unfoldable pub handle_directive : Option Directive → State → State
handle_directive None s = s
handle_directive (Some d) s =
    let s₁ = cond (not (is_empty d.label)) (insert_label d.label s) s in
    let s₂ = push_value d.value s₁ in
    set_address (add_u32 s₂.current_address d.size) s₂

-- "Instruktion parsen"
unfoldable pub handle_instruction : AssemblyInstruction → State → State
handle_instruction instruction s =
    record {
      labels = s.labels;
      instructions = push s.instructions instruction;
      data_values = s.data_values;
      current_address = add_u32 s.current_address instruction.size;
    }

-- the loop's body after the labels
unfoldable pub handle_rest : Text → State → State
handle_rest line s =
    cond (contains (to_uppercase line) (bytes "DC.") || contains (to_uppercase line) (bytes "DS."))
    (handle_directive (parse_data_directive_with_value line) s)
    (handle_instruction (parse_instruction line s.current_address) s)

-- "Handle labels", and what stands after them
unfoldable pub handle_label : List Text → State → State
handle_label parts s =
    let label_name = trim (at parts 0) in
    let s₁ = insert_label label_name s in
    cond (ltb 1 (length parts)) (let line = trim (at parts 1) in cond (is_empty line) s₁ (handle_rest line s₁)) s₁

-- "Handle ORG directive"
unfoldable pub handle_org : Option ℕ → State → State
handle_org None s = s
handle_org (Some addr) s = set_address addr s

-- the loop's body
unfoldable pub body : Text → State → Flow
body raw s =
    let line = trim raw in
    cond (is_empty line || starts_with line (bytes ";")) (continue s)
    (cond (starts_with (to_uppercase line) (bytes "END")) (break s)
    (cond (starts_with (to_uppercase line) (bytes "ORG")) (continue (handle_org (parse_org_directive line) s))
    (cond (contains line (bytes ":")) (continue (handle_label (splitn_2 58 line) s)) (continue (handle_rest line s)))))

-- `for line in assembly_lines`
unfoldable pub rust_first_pass : List Text → State → State
rust_first_pass [] s = s
rust_first_pass (line ∷ lines) s = elim (body line s) [ continue s' ↦ rust_first_pass lines s' | break s' ↦ s' ]

-- a data value's two words, after the machine code so far
unfoldable pub push_data : List (ℕ × ℕ) → ℕ × ℕ → List (ℕ × ℕ)
push_data machine_code d =
    push (push machine_code (d.0, as_u16 (shr d.1 16))) (add_u32 d.0 2, as_u16 (d.1 and 0xFFFF))

-- `if let Some(ext) = ext_word { .. }`
unfoldable pub push_ext : List (ℕ × ℕ) → ℕ → Option ℕ → List (ℕ × ℕ)
push_ext machine_code address None = machine_code
push_ext machine_code address (Some ext) = push machine_code (add_u32 address 2, ext)

-- an instruction's words, after the machine code so far
unfoldable pub push_code : List (ℕ × ℕ) → ℕ → Option Code → List (ℕ × ℕ)
push_code machine_code address None = machine_code
push_code machine_code address (Some c) = push_ext (push machine_code (address, c.0)) address c.1

-- `if let Some((code, ext_word)) = self.encode_instruction_with_ext(inst) { .. }`
unfoldable pub push_instruction : HashMap → List (ℕ × ℕ) → AssemblyInstruction → List (ℕ × ℕ)
push_instruction labels machine_code inst = push_code machine_code inst.address (encode_instruction_with_ext labels inst)

-- the lines' machine code: addresses and words
unfoldable pub assemble : List Text → List (ℕ × ℕ)
assemble assembly_lines =
    let s = rust_first_pass assembly_lines (record { labels = []; instructions = []; data_values = []; current_address = 0 }) in
    let machine_code = foldl push_data [] s.data_values in
    foldl (push_instruction s.labels) machine_code s.instructions
