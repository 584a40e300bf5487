pub mod LaneAreas
