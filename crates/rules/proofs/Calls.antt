-- Every call is local, a crew's too: it reads and writes the records of the numbers that it names. And its single steps leave the state that it leaves. Assumes nothing.
use mathlib.Core.Path.{◌≡◌, refl, sym, ap, ◌∙◌}
use mathlib.Core.Bool.{Bool, true, false, not, ◌||◌}
use mathlib.Core.Option.{Option, none, some}
use mathlib.Core.List.{List, [], ◌∷◌, ◌++◌}
use Prim.Native.Nat.{ℕ}
use lib.Dec.{eqb}
use Rattle.numbers.specs.declared.Msisdn.{Msisdn}
use Rattle.crews.specs.Crews.{is_in}
use Rattle.records.specs.declared.Record.{Record}
use Rattle.states.specs.States.{State, state_sound, record_for}
use Rattle.rules.specs.Crews.{crew_codes, crew_number, Walk, crew_outcome}
use Rattle.rules.specs.Run.{end, log, Local}
use Rattle.rules.specs.Calls.{Call, request, Reply, replied, call, name_of, is_named, names_one, codes_read, codes_of, all_named, names, steps_of, steps}
use Rattle.rules.specs.Singles.{succeeds, codes_where}
use Rattle.rules.proofs.Once.{single}
use Rattle.rules.proofs.Inside.{Wraps}
use Rattle.rules.proofs.Unsound.{unsound_stays, unsound_end}
use Rattle.rules.proofs.Rearrange.{end_inv}
use Rattle.rules.proofs.Runs.{any_names, runs_other, runs_log, runs_own}
use Rattle.rules.proofs.Sound.{Kept, end_keeps}
use Rattle.rules.proofs.Local.{singles_local}
use Rattle.rules.proofs.Single.{call_single, AllSingle, singles_end}
use Rattle.rules.proofs.Steps.{Goes, goes_room, goes_walks, walk, View, own, stops, goes, view, singly, small, singly_single, singly_walks, names_in}

abbrev look : ℕ → State → Option Record
look k t = record_for t k

abbrev Sound : State → Type 0
Sound t = state_sound t ≡ true

-- ---- what a call names

-- one that is no crew's names one number at most
pub names_own : (list : List ℕ) (c : Call) (k : ℕ) → codes_of c ≡ none → names list c k ≡ names_one list c k
unfolding is_in
names_own list c k e = ap (λ codes. is_in k (all_named (name_of list c) codes)) e ∙ go (name_of list c)
  where
    no_other : (b : Bool) → (b || false) ≡ b
    no_other true = refl
    no_other false = refl

    go : (n : Option ℕ) → is_in k (all_named n none) ≡ is_named n k
    go none = refl
    go (some j) = no_other (eqb j k)

-- in its frame it names what it names without
names_same : {list : List ℕ} {delay : ℕ} {turn : Reply → Reply} {c d : Call} → Wraps list delay turn c d → (k : ℕ) → names list c k ≡ names list d k
names_same w k = λ i. is_in k (all_named (w.name i) (codes_read (w.read i)))

-- ---- a crew that goes

-- the reply has the codes, and no state
reply_same : (n : ℕ) (reply : List ℕ) (w v : Walk) → w.successes ≡ v.successes → w.failures ≡ v.failures
    → (replied (crew_outcome n reply w)).0 ≡ (replied (crew_outcome n reply v)).0
reply_same n reply w v p q = rw (p, q) refl

module _ (list : List ℕ) (delay : ℕ) (requester : Msisdn) (scheme : ℕ) (string reply : List ℕ) (g : Goes list requester scheme string reply) where
  abbrev it : Call
  it = request requester scheme string reply

  abbrev its : List Call
  its = singly list delay requester scheme string reply g (λ code. reply) (λ code. goes_room list requester scheme string reply g)

  abbrev n : ℕ
  n = crew_number g.fields.operation

  walking : (t : State) → state_sound t ≡ true → call list delay it t ≡ replied (crew_outcome n reply (walk list requester scheme string reply g t))
  walking t sound = ap replied (goes_walks list requester scheme string reply g t sound)

  pub goes_state : (t : State) → state_sound t ≡ true → (call list delay it t).1 ≡ end (single list delay) its t
  goes_state t sound =
      ap (λ r. r.1) (walking t sound)
      ∙ (singly_walks list delay requester scheme string reply g (λ code. reply) (λ code. goes_room list requester scheme string reply g) t sound).state

  goes_names : (k : ℕ) → names list it k ≡ any_names (names_one list) its k
  goes_names k =
      rw (g.passed, g.reads, g.crew) refl
      ∙ sym (names_in list delay requester scheme string reply g (λ code. reply) (λ code. goes_room list requester scheme string reply g) (crew_codes g.codes) k
      (small list delay requester scheme string reply g (λ code. reply) (λ code. goes_room list requester scheme string reply g)))

  module _ (t u : State) (st : state_sound t ≡ true) (su : state_sound u ≡ true) (same : (k : ℕ) → names list it k ≡ true → look k t ≡ look k u) where
    same_singly : (k : ℕ) → any_names (names_one list) its k ≡ true → look k t ≡ look k u
    same_singly k m = same k (goes_names k ∙ m)

    same_got : log (single list delay) its t ≡ log (single list delay) its u
    same_got = runs_log (single list delay) (names_one list) look Sound (singles_local list delay) its t u st su same_singly

    goes_answer : (call list delay it t).0 ≡ (call list delay it u).0
    goes_answer =
        let x = singly_walks list delay requester scheme string reply g (λ code. reply) (λ code. goes_room list requester scheme string reply g) t st in
        let y = singly_walks list delay requester scheme string reply g (λ code. reply) (λ code. goes_room list requester scheme string reply g) u su in
        ap (λ r. r.0) (walking t st)
        ∙ reply_same n reply (walk list requester scheme string reply g t) (walk list requester scheme string reply g u)
        (x.successes ∙ ap (codes_where succeeds (crew_codes g.codes)) same_got ∙ sym y.successes)
        (x.failures ∙ ap (codes_where (λ a. not (succeeds a)) (crew_codes g.codes)) same_got ∙ sym y.failures)
        ∙ sym (ap (λ r. r.0) (walking u su))

    goes_own : (k : ℕ) → names list it k ≡ true → look k (call list delay it t).1 ≡ look k (call list delay it u).1
    goes_own k m =
        ap (look k) (goes_state t st)
        ∙ runs_own (single list delay) (names_one list) look Sound (singles_local list delay) its t u k st su same_singly (sym (goes_names k) ∙ m)
        ∙ sym (ap (look k) (goes_state u su))

  goes_keeps : (t : State) → state_sound t ≡ true → state_sound (call list delay it t).1 ≡ true
  goes_keeps t sound =
      ap state_sound (goes_state t sound) ∙ end_inv (single list delay) (names_one list) look Sound (singles_local list delay) its t sound

  goes_other : (t : State) (k : ℕ) → state_sound t ≡ true → names list it k ≡ false → look k (call list delay it t).1 ≡ look k t
  goes_other t k sound m =
      ap (look k) (goes_state t sound)
      ∙ runs_other (single list delay) (names_one list) look Sound (singles_local list delay) its t k sound (sym (goes_names k) ∙ m)

-- ---- every call

module _ (list : List ℕ) (delay : ℕ) where
  abbrev locally : Local (single list delay) (names_one list) look Sound
  locally = singles_local list delay

  keep : {c : Call} → View list delay c → (t : State) → Sound t → Sound (call list delay c t).1
  keep (own c e s) t sound = rw (call_single list delay c t e) (locally.keep c t sound)
  keep (stops c r f s) t sound = rw (f t sound) sound
  keep (goes {requester = requester} {scheme = scheme} {string = string} {reply = reply} g w s) t sound =
      rw (w.calls t sound) (goes_keeps list delay requester scheme string reply g t sound)

  other : {c : Call} → View list delay c → (t : State) (k : ℕ) → Sound t → names list c k ≡ false → look k (call list delay c t).1 ≡ look k t
  other (own c e s) t k sound m = rw (call_single list delay c t e) (locally.other c t k sound (sym (names_own list c k e) ∙ m))
  other (stops c r f s) t k sound m = rw (f t sound) refl
  other (goes {requester = requester} {scheme = scheme} {string = string} {reply = reply} g w s) t k sound m =
      rw (w.calls t sound) (goes_other list delay requester scheme string reply g t k sound (sym (names_same w k) ∙ m))

  answer : {c : Call} → View list delay c → (t u : State) → Sound t → Sound u → ((k : ℕ) → names list c k ≡ true → look k t ≡ look k u)
      → (call list delay c t).0 ≡ (call list delay c u).0
  answer (own c e s) t u st su same =
      ap (λ r. r.0) (call_single list delay c t e)
      ∙ locally.answer c t u st su (λ k m. same k (names_own list c k e ∙ m))
      ∙ sym (ap (λ r. r.0) (call_single list delay c u e))
  answer (stops c r f s) t u st su same = ap (λ x. x.0) (f t st) ∙ sym (ap (λ x. x.0) (f u su))
  answer (goes {turn = turn} {requester = requester} {scheme = scheme} {string = string} {reply = reply} g w s) t u st su same =
      ap (λ r. r.0) (w.calls t st)
      ∙ ap turn (goes_answer list delay requester scheme string reply g t u st su (λ k m. same k (names_same w k ∙ m)))
      ∙ sym (ap (λ r. r.0) (w.calls u su))

  mine : {c : Call} → View list delay c → (t u : State) (k : ℕ) → Sound t → Sound u → ((j : ℕ) → names list c j ≡ true → look j t ≡ look j u)
      → names list c k ≡ true → look k (call list delay c t).1 ≡ look k (call list delay c u).1
  mine (own c e s) t u k st su same m =
      ap (λ r. look k r.1) (call_single list delay c t e)
      ∙ locally.own c t u k st su (λ j q. same j (names_own list c j e ∙ q)) (sym (names_own list c k e) ∙ m)
      ∙ sym (ap (λ r. look k r.1) (call_single list delay c u e))
  mine (stops c r f s) t u k st su same m = ap (λ x. look k x.1) (f t st) ∙ same k m ∙ sym (ap (λ x. look k x.1) (f u su))
  mine (goes {requester = requester} {scheme = scheme} {string = string} {reply = reply} g w s) t u k st su same m =
      ap (λ r. look k r.1) (w.calls t st)
      ∙ goes_own list delay requester scheme string reply g t u st su (λ j q. same j (names_same w j ∙ q)) k (sym (names_same w k) ∙ m)
      ∙ sym (ap (λ r. look k r.1) (w.calls u su))

  pub calls_local : Local (call list delay) (names list) look Sound
  calls_local = record {
    keep = λ c t s. keep (view list delay c) t s;
    other = λ c t k s m. other (view list delay c) t k s m;
    answer = λ c t u s v h. answer (view list delay c) t u s v h;
    own = λ c t u k s v h m. mine (view list delay c) t u k s v h m;
  }

  -- ---- its single steps

  -- they are single
  steps_single : {c : Call} → View list delay c → AllSingle (steps_of list c)
  steps_single (own c e s) = rw s (e, tt)
  steps_single (stops c r f s) = rw s tt
  steps_single (goes {requester = requester} {scheme = scheme} {string = string} {reply = reply} g w s) =
      rw s (singly_single list delay requester scheme string reply g (λ code. reply) (λ code. goes_room list requester scheme string reply g))

  both_single : (cs ds : List Call) → AllSingle cs → AllSingle ds → AllSingle (cs ++ ds)
  both_single [] ds a b = b
  both_single (c ∷ cs) ds (e, a) b = (e, both_single cs ds a b)

  pub all_steps_single : (cs : List Call) → AllSingle (steps list cs)
  all_steps_single [] = tt
  all_steps_single (c ∷ cs) = both_single (steps_of list c) (steps list cs) (steps_single (view list delay c)) (all_steps_single cs)

  -- they leave the state that the call leaves
  step_state : {c : Call} → View list delay c → (t : State) → Sound t → (call list delay c t).1 ≡ end (call list delay) (steps_of list c) t
  step_state (own c e s) t sound = rw s refl
  step_state (stops c r f s) t sound = rw (f t sound, s) refl
  step_state (goes {requester = requester} {scheme = scheme} {string = string} {reply = reply} g w s) t sound =
      ap (λ r. r.1) (w.calls t sound)
      ∙ goes_state list delay requester scheme string reply g t sound
      ∙ sym (singles_end list delay (singly list delay requester scheme string reply g (λ code. reply) (λ code. goes_room list requester scheme string reply g)) t
      (singly_single list delay requester scheme string reply g (λ code. reply) (λ code. goes_room list requester scheme string reply g)))
      ∙ ap (λ cs. end (call list delay) cs t) (sym s)

  pub step_end : (c : Call) (t : State) → Sound t → (call list delay c t).1 ≡ end (call list delay) (steps_of list c) t
  step_end c = step_state (view list delay c)

  end_behind : (cs ds : List Call) (t : State) → end (call list delay) (cs ++ ds) t ≡ end (call list delay) ds (end (call list delay) cs t)
  end_behind [] ds t = refl
  end_behind (c ∷ cs) ds t = end_behind cs ds (call list delay c t).1

  -- whatever the state: an unsound one stays
  pub steps_end : (cs : List Call) (t : State) → end (call list delay) cs t ≡ end (call list delay) (steps list cs) t
  steps_end [] t = refl
  steps_end (c ∷ cs) t =
      steps_end cs (call list delay c t).1
      ∙ ap (end (call list delay) (steps list cs)) (by_state (state_sound t) refl)
      ∙ sym (end_behind (steps_of list c) (steps list cs) t)
    where
      by_state : (b : Bool) → state_sound t ≡ b → (call list delay c t).1 ≡ end (call list delay) (steps_of list c) t
      by_state true sound = step_end c t sound
      by_state false unsound =
          unsound_stays t unsound list delay c ∙ sym (unsound_end t unsound list delay (steps_of list c))

  log_behind : (cs ds : List Call) (t : State)
      → log (call list delay) (cs ++ ds) t ≡ log (call list delay) cs t ++ log (call list delay) ds (end (call list delay) cs t)
  log_behind [] ds t = refl
  log_behind (c ∷ cs) ds t = ap (λ l. (c, (call list delay c t).0) ∷ l) (log_behind cs ds (call list delay c t).1)

  -- the steps of a call get what they get, and those of the calls behind it what they get on the state that it leaves
  pub steps_log : (c : Call) (cs : List Call) (t : State) → Sound t
      → log (call list delay) (steps list (c ∷ cs)) t ≡ log (call list delay) (steps_of list c) t ++ log (call list delay) (steps list cs) (call list delay c t).1
  steps_log c cs t sound =
      log_behind (steps_of list c) (steps list cs) t
      ∙ ap (λ u. log (call list delay) (steps_of list c) t ++ log (call list delay) (steps list cs) u) (sym (step_end c t sound))

  -- ---- the end of a list of calls

  pub singly_end : (cs : List Call) (t : State) → end (call list delay) cs t ≡ end (single list delay) (steps list cs) t
  singly_end cs t = steps_end cs t ∙ singles_end list delay (steps list cs) t (all_steps_single cs)

  -- a sound state is left, with the same numbers in the same rows
  pub calls_keep : (cs : List Call) (t : State) → Sound t → Kept t (end (call list delay) cs t)
  calls_keep cs t sound = rw (singly_end cs t) (end_keeps list delay (steps list cs) t sound)
