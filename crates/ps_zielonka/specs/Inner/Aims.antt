-- The parameters (`Aim`) of an attractor computation in which the vertices with the level `UNPLACED` are those not yet
-- attracted.
use Rattle.ps_attractor.specs.declared.aim.Aim.{Aim}
use Rattle.ps_zielonka.specs.declared.attraction.Attraction.{Attraction}
use Rattle.ps_zielonka.specs.declared.level.TheConstants.{UNPLACED}
use Rattle.ps_zielonka.specs.Inner.Levels.{code_of}

abbrev pub aim_of : Attraction → Aim
aim_of attraction = record {
  player = attraction.player;
  begin = attraction.begin;
  level = code_of attraction.level;
  free = UNPLACED;
}
