-- A helper: the radios whose next question can be asked. Assumes nothing.
use Rattle.std.specs.Prelude.{◌≡◌, ◌≤◌, true, drop}
use Rattle.stores.specs.declared.Radio.{Radio}
use Rattle.stores.specs.Stores.{most_stored, entries_in, entry_sound, is_blank, every}

-- of a sound radio so much holds of what a notice or an answer makes of it
pub record Asks (radio : Radio) : Type 0 where
  pub few : radio.count ≤ most_stored
  pub entries : every entry_sound (entries_in radio) ≡ true
  pub rest : every is_blank (drop radio.count radio.entries) ≡ true
