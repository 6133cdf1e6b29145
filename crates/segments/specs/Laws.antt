-- What holds of relations in segments, whatever their bytes are.
use Rattle.std.specs.Prelude.{◌≡◌, ℕ, ◌<◌, List}
use Rattle.pg_files.specs.Outside.{FileMap}
use Rattle.segments.specs.Relation.{HasSegments, HasSeriesFault, IsRelation, first_segments}
use Rattle.segments.specs.Writing.{HaveParts, segments_for}
use Rattle.segments.specs.declared.fault.SeriesCause.{SeriesCause}
use Rattle.segments.specs.declared.limits.Limits.{Limits}

-- files have one relation of a name at most, and it has one fault at most
pub record RelationsAreOne : Type 0 where
  pub bytes : (limits : Limits) (name one other : List ℕ) (files : FileMap)
      → IsRelation limits name one files → IsRelation limits name other files → one ≡ other
  pub causes : (limits : Limits) (name : List ℕ) (files : FileMap) (one other : SeriesCause) (block place : ℕ)
      → HasSeriesFault limits files name one block → HasSeriesFault limits files name other place → one ≡ other
  pub blocks : (limits : Limits) (name : List ℕ) (files : FileMap) (cause : SeriesCause) (block place : ℕ)
      → HasSeriesFault limits files name cause block → HasSeriesFault limits files name cause place → block ≡ place

-- what was written in segments is the relation of its name, whatever files stood there before
pub record WrittenIsRead : Type 0 where
  pub segments : (size : ℕ) (name image : List ℕ) (old new : FileMap) → 0 < size
      → HaveParts size name image (segments_for size image) old new → HasSegments size new name (segments_for size image)
  pub bytes : (size : ℕ) (name image : List ℕ) (old new : FileMap) → 0 < size
      → HaveParts size name image (segments_for size image) old new → first_segments new name (segments_for size image) ≡ image
