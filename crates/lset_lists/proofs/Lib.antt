mod Linearized
