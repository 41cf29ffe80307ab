-- The words that clauses of this crate are written in, each from the file that defines it.
pub use Rattle.sz_support.specs.LawsExactly.{CellsOfGreatestMatter, CellsOfGreatestOfLayersMatter}
pub use Rattle.sz_support.specs.LawsExactly.{CellsOfLeastMatter, CellsOfLeastOfLayersMatter}
pub use Rattle.sz_support.specs.LawsExactly.{CellsRoundHotOnesMatter, ConvolvedCellsMatterOnlyThere}
pub use Rattle.sz_support.specs.LawsExactly.{InnerCellsOfRegionsMatter}
pub use Rattle.sz_support.specs.LawsExactly.{MultipliedCellsMatterByPresence, NamingCellsMatter}
pub use Rattle.sz_support.specs.LawsExactly.{OwnCellsOfCleanMatter, PairedCellsMatterOnlyThere}
pub use Rattle.sz_support.specs.LawsExactly.{RegionsHaveFirstCells, RimCellsOfRegionsMatter}
pub use Rattle.sz_support.specs.LawsExactly.{SummedCellsMatterOnlyThere}
pub use Rattle.sz_support.specs.LawsExactly.{SummedCellsOfLayersMatterOnlyThere}
pub use Rattle.sz_support.specs.LawsMatter.{AddedCellsMatter, CellsOfAbsMatter, CellsOfAddKMatter}
pub use Rattle.sz_support.specs.LawsMatter.{CellsOfClipMatter, CellsOfClipMatterByPresence}
pub use Rattle.sz_support.specs.LawsMatter.{CellsOfMulKMatter, CellsOfMulKMatterByPresence}
pub use Rattle.sz_support.specs.LawsMatter.{ChangedInputsDifferThere, ConvolvedCellsMatter}
pub use Rattle.sz_support.specs.LawsMatter.{CountedCellsMatter, CountedCellsOfLayersMatter}
pub use Rattle.sz_support.specs.LawsMatter.{GreaterCellsMatter, LesserCellsMatter}
pub use Rattle.sz_support.specs.LawsMatter.{MatchedCellsMatter, MatchingCellsMatter}
pub use Rattle.sz_support.specs.LawsMatter.{MultipliedCellsMatter, NegatedCellsMatter}
pub use Rattle.sz_support.specs.LawsMatter.{NumbersCanBeNumbers, OwnCellsOfRegionsMatter}
pub use Rattle.sz_support.specs.LawsMatter.{RimCellsBeforeMatter, SlicedCellsMatter}
pub use Rattle.sz_support.specs.LawsMatter.{SubtractedCellsMatter, SummedCellsMatter}
pub use Rattle.sz_support.specs.LawsMatter.{SummedCellsOfLayersMatter, TransposedCellsMatter}
pub use Rattle.sz_support.specs.LawsSupports.{LowCellsRestOnThemselves, RegionsRestOnTheirRims}
pub use Rattle.sz_support.specs.LawsSupports.{RelatedCellsSupport, RelationsSupport}
pub use Rattle.sz_support.specs.LawsSupports.{SupportsDependOnSupportingCells}
pub use Rattle.sz_support.specs.LawsSupports.{ValuesDependOnCellsLedTo}
pub use Rattle.sz_support.specs.LawsSupports.{ValuesDependOnSupportingCells}
pub use Rattle.sz_support.specs.LawsSuspects.{OtherCellsKeepTheirValues, SupportIsLedTo}
pub use Rattle.sz_support.specs.LawsSuspects.{SuspectsAreLedFrom, SuspectsAreUnionsOfImages}
pub use Rattle.sz_support.specs.LawsSuspects.{ValuesDependOnSupport}
