pub mod Inspecting
