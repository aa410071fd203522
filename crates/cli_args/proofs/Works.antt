-- What each command is asked for, number by number. Assumes nothing.
use Rattle.std.proofs.Common.{◌≡◌, ◌∙◌, ℕ, Bool, List, ap}
use Rattle.std.specs.Prelude.{ℤ, ◌-◌, ◌^◌, Option, Result, Ok, Err, IsErrAnd}
use Rattle.rules.specs.Text.{Text}
use Rattle.cli_run.specs.From.{From}
use Rattle.cli_args.specs.declared.Command.TheVariants as command
use Rattle.cli_args.specs.declared.Setting.TheVariants as setting
use Rattle.cli_args.specs.declared.lexing.Wrong.{Wrong}
use Rattle.cli_args.specs.Number.{address, decimal, distance}
use Rattle.cli_args.specs.Given.{Given, Complaint}
use Rattle.cli_args.specs.Lexed.{complaint_of}
use Rattle.cli_args.specs.Asked.{Work, assemble, manual, move, symbols, nearest, why, tidy, run, sheet, list, check, Runs, Sweep, then_ok, base_in, line_in, registers, registers_in, sweep_in, last_of, tries_of, operand_number, operand_at, operands_of, values_of, has_json, branches_in, file_in, named_file, all_froms, work_of}
use Rattle.cli_args.specs.Parsed.{read_as}

-- ---- a complaint that is handed on
pub handed_on : {A B : Type 0} (f : A → B) (r : Result A Wrong) (w : Wrong) (x : Result B Complaint) → IsErrAnd r (λ u. u ≡ w) → Err (complaint_of w) ≡ x
    → read_as f r ≡ x
handed_on f (Ok y) w x h e = absurd h
handed_on f (Err y) w x h e = ap (λ u. Err (complaint_of u)) h ∙ e

-- ---- one number after another
module _ {A B : Type 0} (k : A → Result B Complaint) where
  pub first_wrong : (r : Result A Complaint) (e : Complaint) → Err e ≡ r → Err e ≡ then_ok r k
  first_wrong r e h = ap (λ r. then_ok r k) h

  pub goes_on : (r : Result A Complaint) (x : A) (y : Result B Complaint) → Ok x ≡ r → y ≡ k x → y ≡ then_ok r k
  goes_on r x y h e = e ∙ ap (λ r. then_ok r k) h

-- ---- the commands; ws, the operands
module _ (gs : List Given) (ws : List Text) (same : ws ≡ operands_of gs) where
  file_is : (k : ℕ) (f : Option Text) → f ≡ named_file (operand_at k ws) → f ≡ file_in k gs
  file_is k f e = e ∙ ap (λ t. named_file (operand_at k t)) same

  module _ (b : ℕ) (base : Ok b ≡ base_in gs) where
    pub assemble_is : (j : Bool) (t f : Option Text) → j ≡ has_json gs → t ≡ branches_in gs → f ≡ named_file (operand_at 0 ws)
        → Ok (assemble j b t f) ≡ work_of command.Assemble gs
    assemble_is j t f ej et ef =
        goes_on (λ b. Ok (assemble (has_json gs) b (branches_in gs) (file_in 0 gs))) (base_in gs) b (Ok (assemble j b t f)) base
        (ap (λ j. Ok (assemble j b t f)) ej ∙ ap (λ t. Ok (assemble (has_json gs) b t f)) et
        ∙ ap (λ f. Ok (assemble (has_json gs) b (branches_in gs) f)) (file_is 0 f ef))

    pub manual_is : (f : Option Text) → f ≡ named_file (operand_at 0 ws) → Ok (manual b f) ≡ work_of command.Manual gs
    manual_is f ef = goes_on (λ b. Ok (manual b (file_in 0 gs))) (base_in gs) b (Ok (manual b f)) base (ap (λ f. Ok (manual b f)) (file_is 0 f ef))

    pub symbols_is : (j : Bool) (f : Option Text) → j ≡ has_json gs → f ≡ named_file (operand_at 0 ws) → Ok (symbols j b f) ≡ work_of command.Symbols gs
    symbols_is j f ej ef =
        goes_on (λ b. Ok (symbols (has_json gs) b (file_in 0 gs))) (base_in gs) b (Ok (symbols j b f)) base
        (ap (λ j. Ok (symbols j b f)) ej ∙ ap (λ f. Ok (symbols (has_json gs) b f)) (file_is 0 f ef))

    abbrev near : ℕ → Result ℕ Complaint → Result Work Complaint
    near b r = then_ok r (λ a. Ok (nearest (has_json gs) b a (file_in 1 gs)))

    pub nearest_is : (j : Bool) (a : ℕ) (f : Option Text) → j ≡ has_json gs → Ok a ≡ operand_number address (operand_at 0 ws) → f ≡ named_file (operand_at 1 ws)
        → Ok (nearest j b a f) ≡ work_of command.Nearest gs
    nearest_is j a f ej ea ef =
        goes_on (λ b. near b (operand_number address (operand_at 0 (operands_of gs)))) (base_in gs) b (Ok (nearest j b a f)) base
        (ap (λ j. Ok (nearest j b a f)) ej ∙ ap (λ f. Ok (nearest (has_json gs) b a f)) (file_is 1 f ef)
        ∙ ap (near b) ea ∙ ap (λ t. near b (operand_number address (operand_at 0 t))) same)

    pub nearest_wrong : (e : Complaint) → Err e ≡ operand_number address (operand_at 0 ws) → Err e ≡ work_of command.Nearest gs
    nearest_wrong e h =
        goes_on (λ b. near b (operand_number address (operand_at 0 (operands_of gs)))) (base_in gs) b (Err e) base
        (ap (near b) h ∙ ap (λ t. near b (operand_number address (operand_at 0 t))) same)

  pub move_is : (d : ℤ) (f : Option Text) → Ok d ≡ operand_number distance (operand_at 0 ws) → f ≡ named_file (operand_at 1 ws) → Ok (move d f) ≡ work_of command.Move gs
  move_is d f ed ef =
      ap (λ f. Ok (move d f)) (file_is 1 f ef) ∙ ap (λ r. then_ok r (λ d. Ok (move d (file_in 1 gs)))) ed
      ∙ ap (λ t. then_ok (operand_number distance (operand_at 0 t)) (λ d. Ok (move d (file_in 1 gs)))) same

  pub move_wrong : (e : Complaint) → Err e ≡ operand_number distance (operand_at 0 ws) → Err e ≡ work_of command.Move gs
  move_wrong e h =
      ap (λ r. then_ok r (λ d. Ok (move d (file_in 1 gs)))) h
      ∙ ap (λ t. then_ok (operand_number distance (operand_at 0 t)) (λ d. Ok (move d (file_in 1 gs)))) same

  pub tidy_is : (f : Option Text) → f ≡ named_file (operand_at 0 ws) → Ok (tidy f) ≡ work_of command.Tidy gs
  tidy_is f ef = ap (λ f. Ok (tidy f)) (file_is 0 f ef)

  pub sheet_is : (j : Bool) (ts : List Text) (f : Option Text) → j ≡ has_json gs → ts ≡ values_of setting.Sheet gs → f ≡ named_file (operand_at 0 ws)
      → Ok (sheet j ts f) ≡ work_of command.Sheet gs
  sheet_is j ts f ej et ef =
      ap (λ j. Ok (sheet j ts f)) ej ∙ ap (λ ts. Ok (sheet (has_json gs) ts f)) et
      ∙ ap (λ f. Ok (sheet (has_json gs) (values_of setting.Sheet gs) f)) (file_is 0 f ef)

  -- ---- run
  abbrev run_by : Result Runs Complaint → Result Work Complaint
  run_by r = then_ok r (λ r. Ok (run (has_json gs) r (file_in 2 gs)))

  abbrev limit_by : List ℕ → Option Sweep → ℕ → Result ℕ Complaint → Result Runs Complaint
  limit_by a s start r = then_ok r (λ limit. Ok (record { a = a; start = start; limit = limit; sweep = s }))

  abbrev start_by : List ℕ → Option Sweep → Result ℕ Complaint → List Text → Result Runs Complaint
  start_by a s r ws = then_ok r (λ start. limit_by a s start (operand_number (λ w. decimal (2 ^ 64 - 1) w) (operand_at 1 ws)))

  abbrev sweep_by : List ℕ → Result (Option Sweep) Complaint → List Text → Result Runs Complaint
  sweep_by a r ws = then_ok r (λ s. start_by a s (operand_number address (operand_at 0 ws)) ws)

  abbrev registers_by : Result (List ℕ) Complaint → List Text → Result Runs Complaint
  registers_by r ws = then_ok r (λ a. sweep_by a (sweep_in (last_of (tries_of gs))) ws)

  all_runs : run_by (registers_by (registers_in gs registers) ws) ≡ work_of command.Run gs
  all_runs = ap (λ t. run_by (registers_by (registers_in gs registers) t)) same

  pub registers_wrong : (e : Complaint) → Err e ≡ registers_in gs registers → Err e ≡ work_of command.Run gs
  registers_wrong e h = ap (λ r. run_by (registers_by r ws)) h ∙ all_runs

  module _ (a : List ℕ) (ea : Ok a ≡ registers_in gs registers) where
    after_registers : run_by (sweep_by a (sweep_in (last_of (tries_of gs))) ws) ≡ work_of command.Run gs
    after_registers = ap (λ r. run_by (registers_by r ws)) ea ∙ all_runs

    pub sweep_wrong : (e : Complaint) → Err e ≡ sweep_in (last_of (tries_of gs)) → Err e ≡ work_of command.Run gs
    sweep_wrong e h = ap (λ r. run_by (sweep_by a r ws)) h ∙ after_registers

    module _ (s : Option Sweep) (es : Ok s ≡ sweep_in (last_of (tries_of gs))) where
      after_sweep : run_by (start_by a s (operand_number address (operand_at 0 ws)) ws) ≡ work_of command.Run gs
      after_sweep = ap (λ r. run_by (sweep_by a r ws)) es ∙ after_registers

      pub start_wrong : (e : Complaint) → Err e ≡ operand_number address (operand_at 0 ws) → Err e ≡ work_of command.Run gs
      start_wrong e h = ap (λ r. run_by (start_by a s r ws)) h ∙ after_sweep

      module _ (start : ℕ) (et : Ok start ≡ operand_number address (operand_at 0 ws)) where
        after_start : run_by (limit_by a s start (operand_number (λ w. decimal (2 ^ 64 - 1) w) (operand_at 1 ws))) ≡ work_of command.Run gs
        after_start = ap (λ r. run_by (start_by a s r ws)) et ∙ after_sweep

        pub limit_wrong : (e : Complaint) → Err e ≡ operand_number (λ w. decimal (2 ^ 64 - 1) w) (operand_at 1 ws) → Err e ≡ work_of command.Run gs
        limit_wrong e h = ap (λ r. run_by (limit_by a s start r)) h ∙ after_start

        pub run_is : (limit : ℕ) (j : Bool) (f : Option Text) → Ok limit ≡ operand_number (λ w. decimal (2 ^ 64 - 1) w) (operand_at 1 ws) → j ≡ has_json gs
            → f ≡ named_file (operand_at 2 ws) → Ok (run j (record { a = a; start = start; limit = limit; sweep = s }) f) ≡ work_of command.Run gs
        run_is limit j f el ej ef =
            ap (λ j. Ok (run j (record { a = a; start = start; limit = limit; sweep = s }) f)) ej
            ∙ ap (λ f. Ok (run (has_json gs) (record { a = a; start = start; limit = limit; sweep = s }) f)) (file_is 2 f ef)
            ∙ ap (λ r. run_by (limit_by a s start r)) el ∙ after_start

-- ---- a base that is wrong
module _ (gs : List Given) (e : Complaint) (h : Err e ≡ base_in gs) where
  pub assemble_wrong : Err e ≡ work_of command.Assemble gs
  assemble_wrong = first_wrong (λ b. Ok (assemble (has_json gs) b (branches_in gs) (file_in 0 gs))) (base_in gs) e h

  pub manual_wrong : Err e ≡ work_of command.Manual gs
  manual_wrong = first_wrong (λ b. Ok (manual b (file_in 0 gs))) (base_in gs) e h

  pub symbols_wrong : Err e ≡ work_of command.Symbols gs
  symbols_wrong = first_wrong (λ b. Ok (symbols (has_json gs) b (file_in 0 gs))) (base_in gs) e h

  pub nearest_base_wrong : Err e ≡ work_of command.Nearest gs
  nearest_base_wrong =
      first_wrong (λ b. then_ok (operand_number address (operand_at 0 (operands_of gs))) (λ a. Ok (nearest (has_json gs) b a (file_in 1 gs)))) (base_in gs) e h

  pub why_base_wrong : Err e ≡ work_of command.Why gs
  why_base_wrong =
      first_wrong (λ b. then_ok (line_in gs) (λ l. Ok (why (has_json gs) b (branches_in gs) l (all_froms (operands_of gs))))) (base_in gs) e h

  pub list_wrong : Err e ≡ work_of command.List gs
  list_wrong = first_wrong (λ b. Ok (list b (branches_in gs) (all_froms (operands_of gs)))) (base_in gs) e h

  pub check_wrong : Err e ≡ work_of command.Check gs
  check_wrong = first_wrong (λ b. Ok (check b (branches_in gs) (all_froms (operands_of gs)))) (base_in gs) e h

-- ---- several files; xs, what they are
module _ (gs : List Given) (xs : List From) (b : ℕ) (base : Ok b ≡ base_in gs) where
  abbrev on_line : ℕ → Result (Option ℕ) Complaint → Result Work Complaint
  on_line b r = then_ok r (λ l. Ok (why (has_json gs) b (branches_in gs) l (all_froms (operands_of gs))))

  pub line_wrong : (e : Complaint) → Err e ≡ line_in gs → Err e ≡ work_of command.Why gs
  line_wrong e h = goes_on (λ b. on_line b (line_in gs)) (base_in gs) b (Err e) base (ap (on_line b) h)

  module _ (t : Option Text) (et : t ≡ branches_in gs) (same : xs ≡ all_froms (operands_of gs)) where
    pub why_is : (j : Bool) (l : Option ℕ) → j ≡ has_json gs → Ok l ≡ line_in gs → Ok (why j b t l xs) ≡ work_of command.Why gs
    why_is j l ej el =
        goes_on (λ b. on_line b (line_in gs)) (base_in gs) b (Ok (why j b t l xs)) base
        (ap (λ j. Ok (why j b t l xs)) ej ∙ ap (λ t. Ok (why (has_json gs) b t l xs)) et
        ∙ ap (λ xs. Ok (why (has_json gs) b (branches_in gs) l xs)) same ∙ ap (on_line b) el)

    pub list_is : Ok (list b t xs) ≡ work_of command.List gs
    list_is =
        goes_on (λ b. Ok (list b (branches_in gs) (all_froms (operands_of gs)))) (base_in gs) b (Ok (list b t xs)) base
        (ap (λ t. Ok (list b t xs)) et ∙ ap (λ xs. Ok (list b (branches_in gs) xs)) same)

    pub check_is : Ok (check b t xs) ≡ work_of command.Check gs
    check_is =
        goes_on (λ b. Ok (check b (branches_in gs) (all_froms (operands_of gs)))) (base_in gs) b (Ok (check b t xs)) base
        (ap (λ t. Ok (check b t xs)) et ∙ ap (λ xs. Ok (check b (branches_in gs) xs)) same)
