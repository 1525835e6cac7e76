-- Files hold one database at most.
use Rattle.std.proofs.Common.{◌≡◌, ◌≢◌, ℕ, ◌+◌, ◌*◌, ◌<◌, ◌≤◌, List, map, is_some, sym, ap, subst, ◌∙◌, inl, inr, arith}
use Rattle.std.proofs.lemmas.Bool.{cases_eq}
use Rattle.sqlite_wal.specs.Format.{be32}
use Rattle.sqlite_wal.specs.Recovery as raw
use Rattle.sqlite_wal.specs.Recovery.{AreWhole, Image, IsIgnored, page_count, Pages}
use Rattle.sqlite_wal.proofs.ChangeLemmas.{HaveCount, pages_range}
use Rattle.sqlite_wal.proofs.FileLemmas.{pages_inside}
use Rattle.sqlite_wal.proofs.RecoveryLemmas.{recovers_once as raw_once}
use Rattle.sqlite_pool.specs.File.{in_use, version_in}
use Rattle.sqlite_pool.specs.Stored.{Adopts, Recovers, reserved, stored_size, trimmed}
use Rattle.sqlite_pool.specs.StoredLaws.{recovers_once, trimmed_counted, trimmed_whole}
use Rattle.sqlite_pool.proofs.ProbeLemmas.{reserved_word, size_by_file, size_by_log}
use Rattle.sqlite_pages.specs.PageMap.{PageMap}
use Rattle.sqlite_trees.specs.declared.store.Shape.TheVariants.{Table}
use Rattle.sqlite_trees.specs.Objects.{with_version}
use Rattle.sqlite_trees.specs.Tree.{Trees}
use Rattle.sqlite_store.specs.Db.{rows_at}
use Rattle.sqlite_store.specs.Listing.{file_trees, listed_from}
use Rattle.sqlite_store.specs.Roots.{has_index_root}
use Rattle.sqlite_store.proofs.AlikeLemmas.{same_file}
use Rattle.sqlite.specs.Files.{HoldsDatabase}
use Rattle.sqlite.specs.Opening.{HoldsAt, HoldsIn, Meets, unrooted}
use Rattle.sqlite.proofs.OpenLemmas.{meets}
use Rattle.keeper_file.proofs.FlatFile.{flat_image, flat_recovers}
use Rattle.keeper_file.proofs.OneSchema.{listed_once}

-- of pages with their sums
held_once : (size : ℕ) (left : Image) (a b : Trees) → HoldsAt size left a → HoldsAt size left b → a ≡ b
held_once size left a b p q =
    let same : p.pages ≡ q.pages = recovers_once size left _ _ p.found q.found in
    let met = subst (λ (pages : PageMap). Meets p.schema p.wanted (map unrooted (rows_at size (in_use size pages) Table 1)) (map (has_index_root (in_use size pages)) (rows_at size (in_use size pages) Table 1))) same (meets p) in
    let listed : listed_from 0 p.wanted ≡ listed_from 0 q.wanted = listed_once _ _ p.schema q.schema p.wanted q.wanted met (meets q) in
    p.reads ∙ ap (file_trees size p.wanted) same ∙ ap (λ (trees : Trees). with_version trees (version_in q.pages)) (same_file size q.wanted p.wanted q.pages listed q.ours).1 ∙ sym q.reads

module _ (size : ℕ) (image : Image) (pages : PageMap) (found : Adopts size image pages) where
  abbrev count : ℕ
  count = page_count (stored_size size) image.log image.db found.found.frames

  counted : HaveCount pages count
  counted =
      let raw_counted : HaveCount (raw.pages_after (stored_size size) image.log image.db found.found.frames) count =
      λ n. (pages_range (stored_size size) image.log image.db found.found.frames n, λ low high. ap is_some (pages_inside (stored_size size) image.log image.db found.found.frames n low high)) in
      subst (λ (p : Pages). HaveCount p count) found.shows (trimmed_counted size found.stored count (subst (λ (p : Pages). HaveCount p count) found.found.gives raw_counted))

  whole : AreWhole size pages
  whole = subst (AreWhole size) found.shows (trimmed_whole size found.stored found.whole)

held_in_once : (size : ℕ) (image : Image) (a b : Trees) → 0 < stored_size size → HoldsIn size image a → HoldsIn size image b → a ≡ b
held_in_once size image a b some p q =
    let stored = raw_once (stored_size size) image _ _ p.found.found q.found.found in
    let same : p.pages ≡ q.pages = sym p.found.shows ∙ ap (trimmed size) stored ∙ q.found.shows in
    let alone = flat_image p.pages (count size image p.pages p.found) in
    let found : Recovers size alone p.pages = flat_recovers size p.pages (count size image p.pages p.found) (whole size image p.pages p.found) (counted size image p.pages p.found) some in
    held_once size alone a b
    (record { pages = p.pages; wanted = p.wanted; schema = p.schema; found = found; ours = p.ours; reads = p.reads; sound = p.sound })
    (record { pages = q.pages; wanted = q.wanted; schema = q.schema; found = subst (Recovers size alone) same found; ours = q.ours; reads = q.reads; sound = q.sound })

large : (image : Image) (db : Trees) (held : HoldsDatabase image db) → 504 ≤ held.0
large image db held = let few : reserved held.0 ≤ 8 = grind arith in omega (arith, held.1.0)

sizes_from : (s t r u x y : ℕ) → s + r ≡ t + u → x ≡ r * 0x100_0000 + 0x0040_2020 → y ≡ u * 0x100_0000 + 0x0040_2020 → x ≡ y → s ≡ t
sizes_from s t r u x y stored mine theirs same = omega (arith, stored, mine, theirs, same)

module _ (image : Image) (a b : Trees) (p : HoldsDatabase image a) (q : HoldsDatabase image b) where
  -- the size of a page is the one that the log names, else the file
  not_apart : stored_size p.0 ≢ stored_size q.0 → ⊥
  not_apart other =
      let read = λ (seen : ¬ IsIgnored image.log). other (sym (size_by_log p.0 image p.2.pages p.2.found seen) ∙ size_by_log q.0 image q.2.pages q.2.found seen) in
      read (λ ignored. other (sym (size_by_file p.0 image p.2.pages p.2.found (large image a p) p.2.ours.file.sound ignored)
      ∙ size_by_file q.0 image q.2.pages q.2.found (large image b q) q.2.ours.file.sound ignored))

  one_stored_size : stored_size p.0 ≡ stored_size q.0
  one_stored_size = elim (cases_eq (stored_size p.0) (stored_size q.0)) [ inl same ↦ same | inr other ↦ absurd (not_apart other) ]

  -- and the header tells whether pages end in sums
  one_size : p.0 ≡ q.0
  one_size =
      let again : raw.Recovers (stored_size p.0) image q.2.found.stored = subst (λ (n : ℕ). raw.Recovers n image q.2.found.stored) (sym one_stored_size) q.2.found.found in
      let stored : p.2.found.stored ≡ q.2.found.stored = raw_once (stored_size p.0) image _ _ p.2.found.found again in
      let mine = reserved_word p.0 image p.2.pages p.2.found (large image a p) p.2.ours.file.sound in
      let theirs = reserved_word q.0 image q.2.pages q.2.found (large image b q) q.2.ours.file.sound in
      let both = sym mine.1 ∙ ap (λ (s : Pages). s 1) stored ∙ theirs.1 in
      let first : mine.0 ≡ theirs.0 = cc in
      sizes_from p.0 q.0 (reserved p.0) (reserved q.0) _ _ one_stored_size mine.3 theirs.3 (ap (λ (f : List ℕ). be32 f 20) first)

  pub one_database : a ≡ b
  one_database =
      let big = large image a p in
      held_in_once p.0 image a b (omega arith) p.2 (subst (λ (n : ℕ). HoldsIn n image b) (sym one_size) q.2)
