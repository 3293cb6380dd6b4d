-- What the pointer that C keeps owns: the detector's box, or nothing.
use base.Fml.{Fml, ftrue}
use denote.RawPtr.{Ptr}
use Rattle.std.specs.declared.option.Option.{Option}
use Rattle.std.specs.declared.option.Option.TheVariants.{None, Some}
use Rattle.std.specs.declared.alloc.Global.{Global}
use Rattle.std.specs.contracts.impls.GlobalAllocator.TheImpl.{ghosts}
use Rattle.std.specs.Box.Ownership.{box_owns}
use Rattle.lg_detector.specs.Support.State.{State}
use Rattle.lg_detector.specs.contracts.detector.Detector.{the_row}

-- the allocator of the C library
abbrev pub heap : Global
heap = record { memory = record { seal = tt } }

abbrev pub kept_owns : Ptr → Option State → Fml
kept_owns p None = ftrue
kept_owns p (Some s) = box_owns (ghosts.dealloc_token heap) the_row p s
