-- What a search and a watch have seen.
use Rattle.std.specs.Prelude.{◌≡◌, ◌↔◌, ℕ, ◌-◌, Bool, false, List, length, IsTrue}
use Rattle.tb_watch.specs.Occurs.{Occurs, last}

-- what contracts see of a search: the word, whether it was found, and the end of the text
pub record Searching : Type 0 where
  pub word : List ℕ
  pub found : Bool
  pub tail : List ℕ

-- the search has seen this text
pub record HasSeen (s : Searching) (text : List ℕ) : Type 0 where
  pub found : IsTrue s.found ↔ Occurs s.word text
  pub tail : s.found ≡ false → s.tail ≡ last (length s.word - 1) text

-- what contracts see of a watch
pub record Watched : Type 0 where
  pub pass : Searching
  pub fail : Searching

-- both searches have seen this text
abbrev pub HasWatched : Watched → List ℕ → Type 0
HasWatched w text = HasSeen w.pass text × HasSeen w.fail text
