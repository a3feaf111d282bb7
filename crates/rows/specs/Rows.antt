-- Document 01, "The lent table and list": the words of a row, when they are sound, and the record that they are. Assumes nothing.
use Rattle.std.specs.Prelude.{ℕ, ◌+◌, ◌*◌, ◌/◌, ◌%◌, ◌^◌, Bool, true, cond, not, ◌&&◌, ◌||◌, List, [], ◌∷◌, get_or, take, drop, eqb, ltb, leb}
use Rattle.std.proofs.lemmas.List.Edits.{sets}
use Rattle.numbers.specs.Numbers.{is_number, number_or_nobody}
use Rattle.records.specs.declared.Notice.{Notice}
use Rattle.records.specs.declared.Notice.TheVariants.{Absent, Waiting, InFlight}
use Rattle.records.specs.declared.Record.{Record}
use Rattle.rows.specs.declared.Words.{Words}
use Rattle.records.specs.Steps.{most_sendings}

-- "six 64-bit words a number … The words: functional number; holder, a number, or 0; phase; notice's addressee; supervisor; second of the last failure"; M-110: "Each record gains a seventh word"
abbrev pub row_words : ℕ
row_words = 7

-- the word at a place of row i
abbrev pub word : List ℕ → ℕ → ℕ → ℕ
word t i place = get_or t (row_words * i + place) 0

-- the functional number of row i: the row's first word
abbrev pub number_at : List ℕ → ℕ → ℕ
number_at t i = get_or t (row_words * i) 0

abbrev pub holder_at : List ℕ → ℕ → ℕ
holder_at t i = word t i 1

abbrev pub phase_at : List ℕ → ℕ → ℕ
phase_at t i = word t i 2

abbrev pub addressee_at : List ℕ → ℕ → ℕ
addressee_at t i = word t i 3

abbrev pub supervisor_at : List ℕ → ℕ → ℕ
supervisor_at t i = word t i 4

abbrev pub second_at : List ℕ → ℕ → ℕ
second_at t i = word t i 5

abbrev pub closed_at : List ℕ → ℕ → ℕ
closed_at t i = word t i 6

-- row i, and the same word by word (proofs/Seven, `row_listed`)
abbrev pub row : List ℕ → ℕ → List ℕ
row t i = take row_words (drop (row_words * i) t)

abbrev pub listed : List ℕ → ℕ → List ℕ
listed t i = number_at t i ∷ holder_at t i ∷ phase_at t i ∷ addressee_at t i ∷ supervisor_at t i ∷ second_at t i ∷ closed_at t i ∷ []

-- the words of row i
abbrev pub words_at : List ℕ → ℕ → Words
words_at t i = record {
  number = number_at t i;
  holder = holder_at t i;
  phase = phase_at t i;
  addressee = addressee_at t i;
  supervisor = supervisor_at t i;
  second = second_at t i;
  closed = closed_at t i;
}

-- the largest phase, after at most `limit` sendings: "Even 2k …: in flight, k done"
abbrev pub last_phase_of : ℕ → ℕ
last_phase_of limit = 2 * limit

-- M-102: "phases run to 12"
abbrev pub last_phase : ℕ
last_phase = last_phase_of most_sendings

-- a waiting phase after a failure: odd, from 3 on; where the phases end is the limit's
abbrev pub failed_once : ℕ → Bool
failed_once phase = eqb (phase % 2) 1 && leb 3 phase

-- "addressee and supervisor are numbers", M-111: "a pending notice may have supervisor 0"
abbrev pub parties_sound : ℕ → ℕ → Bool
parties_sound addressee supervisor = is_number addressee && number_or_nobody supervisor

-- "With phase 0 the last three words are 0. Otherwise addressee and supervisor … differ. The last word is below 2^32",
-- M-102: "may be non-zero in odd phases from 3 to 11"; whether addressee and supervisor are sound is said beside them
unfoldable pub notice_up_to : ℕ → Bool → ℕ → ℕ → ℕ → ℕ → Bool
notice_up_to limit parties phase addressee supervisor second =
    cond (eqb phase 0) (eqb addressee 0 && eqb supervisor 0 && eqb second 0)
    (leb phase (last_phase_of limit)
    && (parties && not (eqb addressee supervisor))
    && (ltb second (2 ^ 32) && (eqb second 0 || failed_once phase)))

abbrev pub notice_by : Bool → ℕ → ℕ → ℕ → ℕ → Bool
notice_by = notice_up_to most_sendings

abbrev pub notice_sound : ℕ → ℕ → ℕ → ℕ → Bool
notice_sound phase addressee supervisor second = notice_by (parties_sound addressee supervisor) phase addressee supervisor second

-- M-110: "0 open or 1 closed"
abbrev pub closed_sound : ℕ → Bool
closed_sound closed = eqb closed 0 || eqb closed 1

-- row i, by itself, as document 01 says ("holder, a number, or 0"), with at most `limit` sendings of a notice
unfoldable pub row_up_to : ℕ → List ℕ → ℕ → Bool
row_up_to limit t i =
    is_number (number_at t i)
    && number_or_nobody (holder_at t i)
    && (notice_up_to limit (parties_sound (addressee_at t i) (supervisor_at t i)) (phase_at t i) (addressee_at t i) (supervisor_at t i) (second_at t i)
    && closed_sound (closed_at t i))

abbrev pub row_sound : List ℕ → ℕ → Bool
row_sound = row_up_to most_sendings

-- "Phase 0: no notice. Odd 2k+1 …: waiting, k sendings done. Even 2k …: in flight, k done"
unfoldable pub notice_of : ℕ → ℕ → Notice
notice_of phase second = cond (eqb phase 0) Absent (cond (eqb (phase % 2) 1) (Waiting (phase / 2) second) (InFlight (phase / 2)))

abbrev pub phase_of : Notice → ℕ
phase_of Absent = 0
phase_of (Waiting k s) = 2 * k + 1
phase_of (InFlight k) = 2 * k

abbrev pub second_of : Notice → ℕ
second_of Absent = 0
second_of (Waiting k s) = s
second_of (InFlight k) = 0

-- one where it is so
abbrev pub one : Bool → ℕ
one b = cond b 1 0

-- the record of row i
unfoldable pub record_at : List ℕ → ℕ → Record
record_at t i = record {
  holder = record { 0 = holder_at t i };
  notice = notice_of (phase_at t i) (second_at t i);
  addressee = record { 0 = addressee_at t i };
  supervisor = record { 0 = supervisor_at t i };
  closed = eqb (closed_at t i) 1;
}

-- the words of a record, in the order in which they stand behind the number
abbrev pub words_of : Record → List ℕ
words_of r = r.holder.0 ∷ phase_of r.notice ∷ r.addressee.0 ∷ r.supervisor.0 ∷ second_of r.notice ∷ one r.closed ∷ []

-- the table with r for the record of row i; its number stays, and so does every other row
unfoldable pub stored : List ℕ → ℕ → Record → List ℕ
stored t i r = sets t (row_words * i + 1) (words_of r)

-- a notice in flight was sent at least once: the one record that no row is, in flight with 0 sendings, is left out
abbrev pub sent_once : Notice → Bool
sent_once Absent = true
sent_once (Waiting k s) = true
sent_once (InFlight k) = leb 1 k

-- a record that the words of a sound row can be
unfoldable pub record_sound : Record → Bool
record_sound r =
    number_or_nobody r.holder.0
    && notice_sound (phase_of r.notice) r.addressee.0 r.supervisor.0 (second_of r.notice)
    && sent_once r.notice
