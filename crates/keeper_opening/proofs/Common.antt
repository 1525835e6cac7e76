-- What several files here take from the specs of this crate and from the crates below.
pub use Rattle.std.proofs.Common.{◌∙◌, ◌≡◌, Err, IfOk, IsTrue, None, Ok, OnErr, Option, Result, Some, ap, inl, length, refl, rules, subst, sym}
pub use Rattle.std.specs.Option.{option_or}
pub use Rattle.std.specs.Prelude.{IsErrOf, is_some}
pub use Rattle.keeper_sqlite.specs.Stands.{Holds, Leaves, StandsAs, Tells}
pub use Rattle.mcy_keeper.specs.Books.{IsBlank, IsFirst, LeavesEither, LeavesNothingNew, begun, upgraded, with_entry}
pub use Rattle.mcy_keeper.specs.declared.book.Book.{Book}
pub use Rattle.mcy_keeper.specs.declared.keeper.KeepError.{KeepError}
pub use Rattle.sqlite.specs.Held.{Held, state}
pub use Rattle.keeper_opening.specs.Places.{Answers, IfRefused, IsUnanswered, Opens, PlaceHolds, PlaceLeaves, PlaceTells, connection_of, noted_cause}
pub use Rattle.keeper_opening.specs.declared.opening.Place.{Place}
pub use Rattle.keeper_opening.specs.declared.opening.Place.TheVariants.{Closed, Opened}
