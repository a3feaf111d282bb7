-- No choice is left: two answers and memories that one contract allows are equal. Assumes nothing.
use Rattle.std.specs.Prelude.{Result, Ok, Err}
use mathlib.Core.Path.{◌≡◌, refl, sym, ap, ◌∙◌}
use mathlib.Core.List.{List}
use Prim.Native.Nat.{ℕ}
use native.Mathlib.Omega.{arith}
use Rattle.answers.specs.declared.Refusal.{Refusal}
use Rattle.answers.proofs.Numbers.{refusal_one}
use Rattle.timetable.specs.declared.Compacted.{Compacted}
use Rattle.timetable.specs.Timetable.{Outcome, said_close, made_close, said_compact, made_compact, said_add, made_add}

-- ---- what is said tells the answers apart

close_said : (v w : Result Unit Refusal) → said_close v ≡ said_close w → v ≡ w
close_said (Err r) (Err q) e = ap Err (refusal_one r q cc)
close_said (Err r) (Ok _) e = absurd (let z : ◌≡◌ {A = ℕ} 0 1 = cc in omega arith)
close_said (Ok _) (Err r) e = absurd (let z : ◌≡◌ {A = ℕ} 0 1 = cc in omega arith)
close_said (Ok _) (Ok _) e = refl

compact_said : (v w : Result Compacted Refusal) → said_compact v ≡ said_compact w → v ≡ w
compact_said (Err r) (Err q) e = ap Err (refusal_one r q cc)
compact_said (Err r) (Ok it) e = absurd (let z : ◌≡◌ {A = ℕ} 0 1 = cc in omega arith)
compact_said (Ok it) (Err r) e = absurd (let z : ◌≡◌ {A = ℕ} 0 1 = cc in omega arith)
compact_said (Ok it) (Ok at) e =
    let a : it.gone ≡ at.gone = cc in let b : it.used ≡ at.used = cc in λ i. Ok (record { gone = a i; used = b i })

add_said : (v w : Result ℕ Refusal) → said_add v ≡ said_add w → v ≡ w
add_said (Err r) (Err q) e = ap Err (refusal_one r q cc)
add_said (Err r) (Ok n) e = absurd (let z : ◌≡◌ {A = ℕ} 0 1 = cc in omega arith)
add_said (Ok n) (Err r) e = absurd (let z : ◌≡◌ {A = ℕ} 0 1 = cc in omega arith)
add_said (Ok n) (Ok m) e = ap Ok (let q : n ≡ m = cc in q)

-- ---- two outcomes that one contract allows are one

module _ (o : Outcome) (v w : List ℕ) where
  pub close_one : (r q : Result Unit Refusal) → made_close r v ≡ o → made_close q w ≡ o → (r ≡ q) × (v ≡ w)
  close_one r q a b = let e = a ∙ sym b in (close_said r q (ap (λ (x : Outcome). x.answer) e), ap (λ (x : Outcome). x.words) e)

  pub compact_one : (r q : Result Compacted Refusal) → made_compact r v ≡ o → made_compact q w ≡ o → (r ≡ q) × (v ≡ w)
  compact_one r q a b = let e = a ∙ sym b in (compact_said r q (ap (λ (x : Outcome). x.answer) e), ap (λ (x : Outcome). x.words) e)

  pub add_one : (r q : Result ℕ Refusal) → made_add r v ≡ o → made_add q w ≡ o → (r ≡ q) × (v ≡ w)
  add_one r q a b = let e = a ∙ sym b in (add_said r q (ap (λ (x : Outcome). x.answer) e), ap (λ (x : Outcome). x.words) e)
