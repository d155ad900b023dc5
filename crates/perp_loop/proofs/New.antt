-- A new walker is sound.
use Rattle.std.proofs.Common.{◌≡◌, refl, sym, ap, ◌∙◌, subst, ℕ, zero, suc, ◌+◌, ◌*◌, ◌≤◌, ◌<◌, if◌then◌else◌, List, [], ◌∷◌, length, drop, arith}
use Rattle.std.specs.Prelude.{All, count_by}
use Rattle.std.proofs.lemmas.List.Elements.{All-nil}
use Rattle.std.proofs.lemmas.List.Sums.{sum_by-cons, sum_by-append}
use Rattle.x86_subset.specs.Test.{LitmusTest, body_of}
use Rattle.x86_subset.specs.declared.instr.Instr.{Instr}
use Rattle.seq_conv.specs.Numbers.{Table, AreOf}
use Rattle.x86_subset.specs.Instr.{is_reading}
use Rattle.x86_subset.specs.Shape.{IsTest}
use Rattle.tso_machine.specs.Part.{slots_of_body, slots_of_loop}
use Rattle.store_buffer.specs.declared.entry.Entry.{Entry}
use Rattle.store_buffer.specs.Asking.{Asking}
use Rattle.store_buffer.specs.Contents.{Contents}
use Rattle.load_log.specs.Values.{Values}
use Rattle.perp_base.specs.declared.options.Options.{Options}
use Rattle.perp_loop.specs.Actions.{write_from, AreInRange}
use Rattle.perp_base.specs.Options.{IsWithinLimits}
use Rattle.perp_loop.specs.Sound.{IsWriteOf, IsPosition, IsSound}
use Rattle.perp_loop.specs.Walking.{StandsFor}
use Rattle.tso_runs.proofs.Cuts.{cut_at_front}
use Rattle.perp_loop.proofs.Taken.{reads, walking, can_end}

count-slots_of_body : (n p : ℕ) (body : List Instr) → count_by reads (slots_of_body n p body) ≡ count_by is_reading body
count-slots_of_body n p [] = refl
count-slots_of_body n p (a ∷ body) =
    sum_by-cons (λ s. if reads s then 1 else 0) (record { iteration = n; place = p; action = a })
    (slots_of_body n (p + 1) body)
    ∙ ap (λ c. (if is_reading a then 1 else 0) + c) (count-slots_of_body n (p + 1) body)
    ∙ sym (sum_by-cons (λ b. if is_reading b then 1 else 0) a body)

count-slots_of_loop : (body : List Instr) (n : ℕ) → count_by reads (slots_of_loop body n) ≡ count_by is_reading body * n
count-slots_of_loop body zero = omega arith
count-slots_of_loop body (suc n) =
    sum_by-append (λ s. if reads s then 1 else 0) (slots_of_loop body n) (slots_of_body n 0 body)
    ∙ omega (arith, count-slots_of_loop body n, count-slots_of_body n 0 body)

-- no action is made before the first one
pub none_made : (test : LitmusTest) (t i : ℕ) (body : List Instr) → body ≡ body_of test t → i * length body ≡ 0
    → i * length (body_of test t) + 0 ≡ 0
none_made test t i body is first = omega (arith, subst (λ b. i * length b ≡ 0) is first)

pub sound_new : {test : LitmusTest} {table : Table} {options : Options} {t i columns : ℕ} {drains : Asking}
    {buffer : Contents}
    {log : Values} → (body : List Instr) → body ≡ body_of test t → i * length body ≡ 0 → IsTest test → AreOf test table
    → t < length test.bodies → IsWithinLimits options
    → IsPosition options.iterations (length body) i 0 → columns ≡ count_by is_reading (body_of test t)
    → drains ≡ record { seed = options.seed; thread = t; rate = options.rate; taken = 0 }
    → buffer ≡ record { capacity = options.buffer; entries = [] }
    → log ≡ record { columns = columns; values = []; spare = columns * options.iterations }
    → IsSound test table options t i 0 drains buffer log
sound_new {test} {table} {options} {t} {i} {columns} {drains} {buffer}
    {log} body is first is_test numbers thread limits position counted asks empty room =
    let slots = slots_of_loop (body_of test t) options.iterations in
    let none = sym (none_made test t i body is first) in
    let enough : count_by reads (drop 0 slots) ≤ columns * options.iterations =
    let e : count_by reads slots ≡ columns * options.iterations =
    count-slots_of_loop (body_of test t) options.iterations ∙ ap (λ c. c * options.iterations) (sym counted) in
    omega (arith, e) in
    record {
      is_test = is_test;
      thread = thread;
      limits = limits;
      numbers = numbers;
      position = subst (λ b. IsPosition options.iterations (length b) i 0) is position;
      asking =
          asks ∙ ap {B = Asking} (λ n. record { seed = options.seed; thread = t; rate = options.rate; taken = n }) none;
      capacity = ap (λ (b : Contents). b.capacity) empty;
      in_range = subst (λ (b : Contents). AreInRange b.entries) (sym empty) (All-nil (λ e. e.loc < 16));
      own = subst (λ (b : Contents). All (λ e. IsWriteOf test t (write_from e)) b.entries) (sym empty)
          (All-nil (λ (e : Entry). IsWriteOf test t (write_from e)));
      columns = ap (λ (l : Values). l.columns) room ∙ counted;
      room = subst (λ n. count_by reads (drop n slots) ≤ log.spare) none
          (subst (λ (l : Values). count_by reads (drop 0 slots) ≤ l.spare) (sym room) enough);
    }

-- it stands for no events yet
pub stands_new : {test : LitmusTest} {table : Table} {options : Options} {t m columns spare : ℕ} {buffer : Contents}
    {log : Values}
    → 1 ≤ options.buffer → m ≡ 0 → buffer ≡ record { capacity = options.buffer; entries = [] }
    → log ≡ record { columns = columns; values = []; spare = spare }
    → StandsFor (walking test table options t m buffer log) []
stands_new {test} {table} {options} {t} {m} {columns} {spare} {buffer} {log} low none empty room =
    let empty_buffer : Contents = record { capacity = options.buffer; entries = [] } in
    let empty_log : Values = record { columns = columns; values = []; spare = spare } in
    let start : StandsFor (walking test table options t 0 empty_buffer empty_log) [] = record {
      made = refl;
      buffer = refl;
      log = refl;
      leads = λ rest f. record { own = f.own; performs = f.performs; keeps = f.keeps; drained = f.drained };
      cuts = λ rest f. cut_at_front rest;
      ends =
          can_end test table options t 0 empty_buffer empty_log low (All-nil
          (λ (e : Entry). IsWriteOf test t (write_from e)));
    } in
    subst (λ (T : Type 0). T) (λ i. StandsFor (walking test table options t ((sym none) i) ((sym empty) i)
    ((sym room) i)) []) start
